-- Which pages the owners in a table have, and what it is to move some of them.
use Rattle.std.specs.Prelude.{ℕ, List}
use Rattle.page_store.specs.declared.table.Table.{Table}
use Rattle.page_store.specs.Pages.{count_of, pages_of, Moved}

-- the pages of owner k, in order
abbrev pub pages_in : Table → ℕ → List ℕ
pages_in t k = pages_of t.next t.chains k

abbrev pub count_in : Table → ℕ → ℕ
count_in t k = count_of t.chains k

-- the first m pages of owner `from` were moved to the end of owner `to`
abbrev pub Spliced : Table → ℕ → ℕ → ℕ → Table → Type 0
Spliced t to from m u = Moved t.next t.chains to from m u.next u.chains
