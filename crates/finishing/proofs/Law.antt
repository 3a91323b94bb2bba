-- Along a finishing list, and its close.
use Rattle.std.proofs.Common.{◌≡◌, ℕ, ◌+◌, ◌<◌, ◌≤◌, max, Bool, true, false, List, ◌∷◌, length, get_or, Some, sym, refl, ap, ◌∙◌, ⊎_elim, arith}
use Rattle.std.specs.Option.{option_or}
use Rattle.std.proofs.lemmas.List.{get_or_append_left}
use Rattle.std.proofs.lemmas.Bool.{cases_Bool, cases_lt}
use Rattle.store.specs.Meaning.{Meaning}
use Rattle.session.specs.Sessions.{Live, World}
use Rattle.session.specs.Rules.{is_away, ruled}
use Rattle.session.specs.Plans.{fresh}
use Rattle.session.specs.Steps.{Word, yes, word_phase}
use Rattle.session.specs.declared.records.Settings.{Settings}
use Rattle.finishing.specs.Runs.{Call, message, answer, Stepped}
use Rattle.finishing.specs.Finishing.{Fits, Sends, done, fragment, verdict, approved, first_carried}
use Rattle.finishing.proofs.State.{Holds, is_whole}
use Rattle.finishing.proofs.Fragments.{after, reach_now, away-whole, away-same, holds-away, took, holds-taken}
use Rattle.finishing.proofs.Verdicts.{told, untold, holds-verdict, holds-untold, not_taken, holds-approved}
use Rattle.finishing.proofs.Carried.{reaches, misses, fresh_at}

-- the list led to world z, where the session is ready; its slot has what it had, and then the first bytes carried
pub record Arrives (sets : Settings) (i : ℕ) (a : Live) (t : ℕ) (w : World) (x : Live) (cs : List Call) (z : World) : Type 0 where
  pub session : Live
  pub agreed : Bool
  pub sure : sets.approver ≡ true → agreed ≡ true
  pub holds : Holds sets i a.serial a.path t z true agreed session
  pub begins : (p : ℕ) → p < x.received → get_or (z.store.held i) p 0 ≡ get_or (w.store.held i) p 0
  pub follows : (p : ℕ) → x.received ≤ p → p < t → first_carried cs p ≡ Some (get_or (z.store.held i) p 0)

module _ (sets : Settings) (i : ℕ) (a : Live) (t : ℕ) (w u : World) (ended agreed : Bool) (x : Live) (page : ℕ) (input : List ℕ)
    (up : sets.uploads ≡ true) (limit : t ≤ sets.maximum)
    (h : Holds sets i a.serial a.path t w ended agreed x) (f : Fits sets w i a t page input) (step : Stepped sets w (message page input) u)
    (cs : List Call) (z : World) where
  past-away : is_away x.phase ≡ true → Arrives sets i a t u x cs z → Arrives sets i a t w x (message page input ∷ cs) z
  past-away e k = record {
    session = k.session;
    agreed = k.agreed;
    sure = k.sure;
    holds = k.holds;
    begins = λ p l. k.begins p l ∙ ap (λ (v : World). get_or (v.store.held i) p 0) (away-same sets i a t w u ended agreed x page input up limit h f step e);
    follows = λ p l m. let n = away-whole sets i a t w u ended agreed x page input up limit h f step e in absurd (omega arith);
  }

  past-taken : is_away x.phase ≡ false → Arrives sets i a t u (after sets w x f.range f.request) cs z → Arrives sets i a t w x (message page input ∷ cs) z
  past-taken e k =
      let o = took sets i a t w u ended agreed x page input up limit h f step e in
      let low = reach_now sets i a t w u ended agreed x page input up limit h f step in
      let kept = h.kept in
      let grown = o.added.grown in
      record {
        session = k.session;
        agreed = k.agreed;
        sure = k.sure;
        holds = k.holds;
        begins = λ p l.
            let b : p < max x.received (f.range.first + length f.request.body) = omega arith in
            let c : p < length (w.store.held i) = omega arith in
            k.begins p b ∙ ap (λ v. get_or v p 0) grown ∙ get_or_append_left (w.store.held i) (fresh x f.range f.request.body) 0 p c;
        follows = λ p l m. ⊎_elim
            (λ c.
            let b : p < max x.received (f.range.first + length f.request.body) = omega arith in
            let d : f.range.first ≤ p = omega arith in
            ap (λ v. option_or v (first_carried cs p)) (reaches input f.request f.id f.range f.at f.read f.action p d c)
            ∙ ap Some (sym (k.begins p b ∙ ap (λ v. get_or v p 0) grown ∙ fresh_at (w.store.held i) f.request.body x.received f.range.first p kept low l)))
            (λ c.
            let b : max x.received (f.range.first + length f.request.body) ≤ p = omega arith in
            ap (λ v. option_or v (first_carried cs p)) (misses input f.request f.id f.range f.at f.read f.action p c)
            ∙ k.follows p b m)
            (cases_lt p (f.range.first + length f.request.body));
      }

past-answer : (sets : Settings) (i : ℕ) (a : Live) (t : ℕ) (w u : World) (x y : Live) (page serial : ℕ) (word : Word) (cs : List Call) (z : World)
    → y.received ≡ x.received → u.store ≡ w.store → Arrives sets i a t u y cs z → Arrives sets i a t w x (answer page serial word ∷ cs) z
past-answer sets i a t w u x y page serial word cs z n s k = record {
  session = k.session;
  agreed = k.agreed;
  sure = k.sure;
  holds = k.holds;
  begins = λ p l. let b : p < y.received = omega arith in k.begins p b ∙ ap (λ (v : Meaning). get_or (v.held i) p 0) s;
  follows = λ p l m. let b : y.received ≤ p = omega arith in k.follows p b m;
}

module _ (sets : Settings) (i : ℕ) (a : Live) (t : ℕ) (up : sets.uploads ≡ true) (limit : t ≤ sets.maximum) where
  pub arrive : {w : World} {ended agreed : Bool} {cs : List Call} {z : World} → Sends sets i a t w ended agreed cs z → (x : Live) → Holds sets i a.serial a.path t w ended agreed x → Arrives sets i a t w x cs z
  arrive (done {w = w} {agreed = agreed} k) x h = record {
    session = x;
    agreed = agreed;
    sure = k;
    holds = h;
    begins = λ p l. refl;
    follows = λ p l m. let n = is_whole sets i a.serial a.path t w agreed x h k in absurd (omega arith);
  }
  arrive (fragment {w = w} {u = u} {z = z} {ended = ended} {agreed = agreed} {page = page} {input = input} {cs = ds} f step rest) x h =
      ⊎_elim
      (λ e. past-away sets i a t w u ended agreed x page input up limit h f step ds z e
      (arrive rest x (holds-away sets i a t w u ended agreed x page input up limit h f step e)))
      (λ e. past-taken sets i a t w u ended agreed x page input up limit h f step ds z e
      (arrive rest (after sets w x f.range f.request) (holds-taken sets i a t w u ended agreed x page input up limit h f step e)))
      (cases_Bool (is_away x.phase))
  arrive (verdict {w = w} {u = u} {z = z} {ended = ended} {agreed = agreed} {page = page} {word = word} {cs = ds} wide step rest) x h =
      ⊎_elim
      (λ e. past-answer sets i a t w u x (ruled (word_phase word) x) page a.serial word ds z refl (told sets i a.serial a.path t w u ended agreed x page word h wide step e).same
      (arrive rest (ruled (word_phase word) x) (holds-verdict sets i a.serial a.path t w u ended agreed x page word h wide step e)))
      (λ e. past-answer sets i a t w u x x page a.serial word ds z refl (ap (λ (v : World). v.store) (untold sets i a.serial a.path t w u ended agreed x page word h wide step e))
      (arrive rest x (holds-untold sets i a.serial a.path t w u ended agreed x page word h wide step e)))
      (cases_Bool (is_away x.phase))
  arrive (approved {w = w} {u = u} {z = z} {ended = ended} {agreed = agreed} {page = page} {address = address} {cs = ds} wide o step rest) x h =
      ⊎_elim
      (λ e. past-answer sets i a t w u x (ruled (word_phase (yes address)) x) page a.serial (yes address) ds z refl (told sets i a.serial a.path t w u ended agreed x page (yes address) h wide step e).same
      (arrive rest (ruled (word_phase (yes address)) x) (holds-approved sets i a.serial a.path t w u ended agreed x page address h wide step o e)))
      (λ e. absurd (not_taken sets i a.serial a.path t w u ended agreed x page (yes address) h wide step e o))
      (cases_Bool (is_away x.phase))
