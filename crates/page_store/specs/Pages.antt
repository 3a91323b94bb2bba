-- Which pages an owner has, in order, and when a table of them is sound.
use Rattle.std.specs.Prelude.{◌≡◌, ℕ, zero, suc, ◌+◌, ◌-◌, ◌*◌, ◌%◌, ◌<◌, ◌≤◌, cond, List, [], ◌∷◌, ◌++◌, take, drop, ◌==◌, ◌≢◌, nat_lt, slice_index, slice_index_or}
use Rattle.page_store.specs.declared.chain.Chain.{Chain}

-- n pages from page p on: each page's link names the one after it
abbrev pub follow : List ℕ → ℕ → ℕ → List ℕ
follow next p zero = []
follow next p (suc n) = p ∷ follow next (slice_index next p) n

abbrev pub blank : Chain
blank = record { head = 0; tail = 0; count = 0 }

abbrev pub chain_of : List Chain → ℕ → Chain
chain_of chains k = slice_index_or chains k blank

abbrev pub count_of : List Chain → ℕ → ℕ
count_of chains k = (chain_of chains k).count

-- the pages of owner k, in order
abbrev pub pages_of : List ℕ → List Chain → ℕ → List ℕ
pages_of next chains k = follow next (chain_of chains k).head (count_of chains k)

-- how often p stands in a list
abbrev pub occurs : ℕ → List ℕ → ℕ
occurs p [] = 0
occurs p (x ∷ xs) = cond (p == x) 1 0 + occurs p xs

-- f 0 + .. + f (n - 1)
abbrev pub total : (ℕ → ℕ) → ℕ → ℕ
total f zero = 0
total f (suc n) = total f n + f n

-- owners 0 to 15 are the slots, 16 to 47 the names, 48 has the free pages

-- each page has one owner, and stands there once; nothing but a page is owned
abbrev pub Once : ℕ → List ℕ → List Chain → Type 0
Once n next chains = (p : ℕ) → total (λ k. occurs p (pages_of next chains k)) 49 ≡ cond (nat_lt p n) 1 0

-- the owners' counts add up to all pages
abbrev pub Whole : ℕ → List Chain → Type 0
Whole n chains = total (count_of chains) 49 ≡ n

abbrev pub Tails : List ℕ → List Chain → Type 0
Tails next chains = (k : ℕ) → 0 < count_of chains k → (chain_of chains k).tail ≡ slice_index (pages_of next chains k) (count_of chains k - 1)

-- the first m pages of owner `from` were moved to the end of owner `to`; no other owner is touched
pub record Moved (next : List ℕ) (chains : List Chain) (to from m : ℕ) (next' : List ℕ) (chains' : List Chain) : Type 0 where
  pub gained : pages_of next' chains' to ≡ pages_of next chains to ++ take m (pages_of next chains from)
  pub rest : pages_of next' chains' from ≡ drop m (pages_of next chains from)
  pub others : (k : ℕ) → k < 49 → (k ≢ to) → (k ≢ from) → pages_of next' chains' k ≡ pages_of next chains k
  pub more : count_of chains' to ≡ count_of chains to + m
  pub fewer : count_of chains' from + m ≡ count_of chains from
  pub counts : (k : ℕ) → (k ≢ to) → (k ≢ from) → count_of chains' k ≡ count_of chains k

-- m pages can be moved from one owner to another
pub record Movable (chains : List Chain) (to from m : ℕ) : Type 0 where
  pub taker : to < 49
  pub giver : from < 49
  pub apart : to ≡ from → ⊥
  pub enough : m ≤ count_of chains from

-- as few pages as so many bytes need
pub record Fewest (pages bytes : ℕ) : Type 0 where
  pub enough : bytes ≤ 4096 * pages
  pub needed : 4096 * pages < bytes + 4096

-- where the next byte goes: a new page if the last one is full or there is none
abbrev pub start_page : Chain → Chain → ℕ → ℕ
start_page chain free len = cond (len % 4096 == 0) free.head chain.tail
