-- The byte that a fragment carries to a place.
use Rattle.std.proofs.Common.{◌≡◌, ℕ, ◌+◌, ◌-◌, ◌<◌, ◌≤◌, ◌&&◌, ltb, leb, List, ◌++◌, length, get_or, drop, Some, None, Ok, ap, ◌∙◌, arith}
use Rattle.std.proofs.lemmas.List.{get_or-append_right, get_or-drop}
use Rattle.std.proofs.lemmas.Bool.{cond-true, cond-false, and_from, and_right, le-leb, lt-ltb, le-ltb}
use Rattle.ids.specs.declared.SessionId.{SessionId}
use Rattle.packet.specs.Packets.{Request, packet_of}
use Rattle.packet.specs.declared.judging.Action.TheVariants.{Fragment}
use Rattle.packet.specs.declared.ranges.Range.{Range}
use Rattle.finishing.specs.Finishing.{carried_to, carried_by}

module _ (input : List ℕ) (q : Request) (id : SessionId) (r : Range) (at : ℕ) (read : packet_of input ≡ Ok q) (act : q.action ≡ Fragment id r at) (p : ℕ) where
  carried : carried_by (packet_of input) p ≡ carried_to (Fragment id r at) q.body p
  carried = ap (λ z. carried_by z p) read ∙ ap (λ z. carried_to z q.body p) act

  pub reaches : r.first ≤ p → p < r.first + length q.body → carried_by (packet_of input) p ≡ Some (get_or q.body (p - r.first) 0)
  reaches a b =
      carried ∙ cond-true (leb r.first p && ltb p (r.first + length q.body)) (Some (get_or q.body (p - r.first) 0)) None
      (and_from (leb r.first p) (ltb p (r.first + length q.body)) (le-leb r.first p a) (lt-ltb p (r.first + length q.body) b))

  pub misses : r.first + length q.body ≤ p → carried_by (packet_of input) p ≡ None
  misses a =
      carried ∙ cond-false (leb r.first p && ltb p (r.first + length q.body)) (Some (get_or q.body (p - r.first) 0)) None
      (and_right (leb r.first p) (ltb p (r.first + length q.body)) (le-ltb p (r.first + length q.body) a))

-- a byte past those that were held
pub fresh_at : (held body : List ℕ) (n first p : ℕ) → length held ≡ n → first ≤ n → n ≤ p → get_or (held ++ drop (n - first) body) p 0 ≡ get_or body (p - first) 0
fresh_at held body n first p e a b =
    let k : n - first + (p - n) ≡ p - first = omega arith in
    get_or-append_right held (drop (n - first) body) n p 0 e b ∙ get_or-drop (n - first) body (p - n) 0 ∙ ap (λ j. get_or body j 0) k
