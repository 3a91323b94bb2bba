-- Places of bytes: apart, in a row inside a page, and what one copy writes.
use Rattle.std.specs.Prelude.{◌≡◌, ℕ, ◌+◌, ◌-◌, ◌*◌, ◌/◌, ◌%◌, ◌<◌, ◌≤◌, ◌⊎◌, List, ◌++◌, length, take, drop, ◌≢◌, slice_index, slice_index_or}
use Rattle.std.proofs.Common.{sym, ap, ◌∙◌, inl, inr, ⊎_elim, arith}
use borrow.Rule.Slice.PartMut.{put_mid}
use Rattle.std.proofs.lemmas.Bool.{cases_lt}
use Rattle.std.proofs.lemmas.List.{length-append, length-take-le, length-drop, get_or_append_left, get_or-append_right, get_or-take, get_or-drop}
use Rattle.page_store.specs.Bytes.{place, Written}

-- pages that differ from place to place, all below n
pub record Pages (n : ℕ) (ps : List ℕ) : Type 0 where
  pub apart : (a b : ℕ) → a < length ps → b < length ps → slice_index ps a ≡ slice_index ps b → a ≡ b
  pub below : (a : ℕ) → a < length ps → slice_index ps a < n

pub in-page : (ps : List ℕ) (x i : ℕ) → x % 4096 + i < 4096 → place ps (x + i) ≡ place ps x + i
in-page ps x i h =
    let d : (x + i) / 4096 ≡ x / 4096 = omega arith in
    let m : (x + i) % 4096 ≡ x % 4096 + i = omega arith in
    rw (d, m) (omega arith)

module _ (n : ℕ) (ps : List ℕ) (g : Pages n ps) where
  pub place-apart : (x y : ℕ) → x < 4096 * length ps → y < 4096 * length ps → place ps x ≡ place ps y → x ≡ y
  place-apart x y hx hy e =
      let q : slice_index_or ps (x / 4096) 0 ≡ slice_index_or ps (y / 4096) 0 = omega arith in
      let i : x / 4096 ≡ y / 4096 = g.apart (x / 4096) (y / 4096) (omega arith) (omega arith) q in
      omega arith

  pub place-below : (x : ℕ) → x < 4096 * length ps → place ps x < 4096 * n
  place-below x h = omega (arith, g.below (x / 4096) (omega arith))

-- an element of a list after a part of it was written
pub put_in : (a k : ℕ) (xs ys : List ℕ) (i : ℕ) → a + k ≤ length xs → length ys ≡ k → i < k → slice_index (put_mid a k xs ys) (a + i) ≡ slice_index ys i
put_in a k xs ys i le len lt =
    let j : a + i - a ≡ i = omega arith in
    get_or-append_right (take a xs) (ys ++ drop k (drop a xs)) a (a + i) 0 (length-take-le a xs (omega arith)) (omega arith)
    ∙ (rw j (get_or_append_left ys (drop k (drop a xs)) 0 i (omega arith)))

pub put-out : (a k : ℕ) (xs ys : List ℕ) (i : ℕ) → a + k ≤ length xs → length ys ≡ k → (i < a) ⊎ (a + k ≤ i) → slice_index (put_mid a k xs ys) i ≡ slice_index xs i
put-out a k xs ys i le len (inl lt) =
    get_or_append_left (take a xs) (ys ++ drop k (drop a xs)) 0 i (omega (arith, length-take-le a xs (omega arith))) ∙ get_or-take a xs i 0 lt
put-out a k xs ys i le len (inr ge) =
    get_or-append_right (take a xs) (ys ++ drop k (drop a xs)) a i 0 (length-take-le a xs (omega arith)) (omega arith)
    ∙ (get_or-append_right ys (drop k (drop a xs)) k (i - a) 0 len (omega arith)
    ∙ (get_or-drop k (drop a xs) (i - a - k) 0 ∙ (get_or-drop a xs (k + (i - a - k)) 0 ∙ ap (λ (x : ℕ). slice_index xs x) (omega arith))))

pub length-put : (a k : ℕ) (xs ys : List ℕ) → a + k ≤ length xs → length ys ≡ k → length (put_mid a k xs ys) ≡ length xs
length-put a k xs ys le len =
    length-append (take a xs) (ys ++ drop k (drop a xs))
    ∙ omega (arith, length-take-le a xs (omega arith), length-append ys (drop k (drop a xs)), length-drop k (drop a xs), length-drop a xs)

-- where an index lies to a part
pub side : (a k i : ℕ) → ((j : ℕ) → j < k → i ≢ a + j) → (i < a) ⊎ (a + k ≤ i)
side a k i none =
    ⊎_elim inl (λ ge. ⊎_elim (λ lt. absurd (none (i - a) (omega arith) (omega arith))) inr (cases_lt i (a + k))) (cases_lt i a)

-- one copy more: k bytes from place d of xs on, inside a page
module _ (n : ℕ) (ps : List ℕ) (g : Pages n ps) (r xs now : List ℕ) (at d k from : ℕ) (long : length r ≡ 4096 * n)
    (room : at + length xs ≤ 4096 * length ps) (left : d + k ≤ length xs) (fit : (at + d) % 4096 + k ≤ 4096) (is : from ≡ place ps (at + d)) where
  here : (i : ℕ) → i < k → place ps (at + (d + i)) ≡ from + i
  here i h =
      let s : at + (d + i) ≡ at + d + i = omega arith in
      ap (place ps) s ∙ (in-page ps (at + d) i (omega arith) ∙ ap (λ (x : ℕ). x + i) (sym is))

  pub part-fits : 0 < k → from + k ≤ 4096 * n
  part-fits pos =
      let b = place-below n ps g (at + (d + (k - 1))) (omega arith) in
      let e = here (k - 1) (omega arith) in
      omega arith

  -- the bytes written by this copy are none of those before it
  clear_of : (j : ℕ) → j < d → (i : ℕ) → i < k → place ps (at + j) ≢ from + i
  clear_of j hj i hi e =
      let same : at + j ≡ at + (d + i) = place-apart n ps g (at + j) (at + (d + i)) (omega arith) (omega arith) (e ∙ sym (here i hi)) in
      omega arith

  pub written-more : 0 < k → Written r ps at (take d xs) now → Written r ps at (take (d + k) xs) (put_mid from k now (take k (drop d xs)))
  written-more pos w =
      let fits : from + k ≤ length now = omega (arith, part-fits pos, w.long) in
      let len : length (take k (drop d xs)) ≡ k = length-take-le k (drop d xs) (omega (arith, length-drop d xs)) in
      let before : length (take d xs) ≡ d = length-take-le d xs (omega arith) in
      let after : length (take (d + k) xs) ≡ d + k = length-take-le (d + k) xs (omega arith) in
      record {
        long = length-put from k now (take k (drop d xs)) fits len ∙ w.long;
        put = λ j h. ⊎_elim
            (λ lt. put-out from k now (take k (drop d xs)) (place ps (at + j)) fits len (side from k (place ps (at + j)) (clear_of j lt))
            ∙ (w.put j (omega arith) ∙ (get_or-take d xs j 0 lt ∙ sym (get_or-take (d + k) xs j 0 (omega arith)))))
            (λ ge. let q : j ≡ d + (j - d) = omega arith in
            ap (λ (x : ℕ). slice_index (put_mid from k now (take k (drop d xs))) x) (ap (λ (x : ℕ). place ps (at + x)) q ∙ here (j - d) (omega arith))
            ∙ (put_in from k now (take k (drop d xs)) (j - d) fits len (omega arith)
            ∙ (get_or-take k (drop d xs) (j - d) 0 (omega arith)
            ∙ (get_or-drop d xs (j - d) 0 ∙ (ap (λ (x : ℕ). slice_index xs x) (sym q) ∙ sym (get_or-take (d + k) xs j 0 (omega arith)))))))
            (cases_lt j d);
        kept = λ i none.
            put-out from k now (take k (drop d xs)) i fits len
            (side from k i (λ j h e. none (d + j) (omega arith) (e ∙ sym (here j h))))
            ∙ w.kept i (λ j h. none j (omega arith));
      }

  pub read_more : 0 < k → (out : List ℕ) → d + k ≤ length out
      → ((j : ℕ) → j < d → slice_index out j ≡ slice_index r (place ps (at + j)))
      → (j : ℕ) → j < d + k → slice_index (put_mid d k out (take k (drop from r))) j ≡ slice_index r (place ps (at + j))
  read_more pos out le before j h =
      ⊎_elim
      (λ lt. put-out d k out (take k (drop from r)) j le (length-take-le k (drop from r) (omega (arith, length-drop from r, part-fits pos))) (inl lt) ∙ before j lt)
      (λ ge. let q : j ≡ d + (j - d) = omega arith in
      ap (λ (x : ℕ). slice_index (put_mid d k out (take k (drop from r))) x) q
      ∙ (put_in d k out (take k (drop from r)) (j - d) le (length-take-le k (drop from r) (omega (arith, length-drop from r, part-fits pos))) (omega arith)
      ∙ (get_or-take k (drop from r) (j - d) 0 (omega arith)
      ∙ (get_or-drop from r (j - d) 0 ∙ (ap (λ (x : ℕ). slice_index r x) (sym (here (j - d) (omega arith))) ∙ ap (λ (x : ℕ). slice_index r (place ps (at + x))) (sym q))))))
      (cases_lt j d)

  -- the same, as the code's copies leave it
  pub written_step : (k' : ℕ) (ys : List ℕ) → k' ≡ k → ys ≡ take k (drop d xs) → 0 < k → Written r ps at (take d xs) now → Written r ps at (take (d + k) xs) (put_mid from k' now ys)
  written_step k' ys e f pos w = rw (e, f) (written-more pos w)

  pub read_step : (k' : ℕ) (ys out : List ℕ) → k' ≡ k → ys ≡ take k (drop from r) → 0 < k → d + k ≤ length out
      → ((j : ℕ) → j < d → slice_index out j ≡ slice_index r (place ps (at + j)))
      → (j : ℕ) → j < d + k → slice_index (put_mid d k' out ys) j ≡ slice_index r (place ps (at + j))
  read_step k' ys out e f pos le before = rw (e, f) (read_more pos out le before)
