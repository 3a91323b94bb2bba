-- What the words of a command line ask for.
use Rattle.std.specs.Prelude.{ℕ, cond, List, [], ◌∷◌, Some, None, codes, Option}
use Rattle.std.specs.Str.{bytes_eq}
use Rattle.volume_files.specs.declared.command.Command.{Command}
use Rattle.volume_files.specs.declared.command.Command.TheVariants.{Check, List as ListOf, Get, Add, Help}

-- a command with the texts that it holds
pub data Wish : Type 0 where
  check : List ℕ → Wish
  list : List ℕ → Wish
  get : List ℕ → List ℕ → Wish
  add : List ℕ → List ℕ → Wish
  help : Wish

abbrev pub wish : Command → Wish
wish (Check f) = check f.now
wish (ListOf f) = list f.now
wish (Get f n) = get f.now n.now
wish (Add f n) = add f.now n.now
wish Help = help

abbrev pub lone_asked : List ℕ → Option Wish
lone_asked v = cond (bytes_eq v (codes "help")) (Some help) None

abbrev pub file_asked : List ℕ → List ℕ → Option Wish
file_asked v f = cond (bytes_eq v (codes "check")) (Some (check f)) (cond (bytes_eq v (codes "list")) (Some (list f)) None)

abbrev pub name_asked : List ℕ → List ℕ → List ℕ → Option Wish
name_asked v f n = cond (bytes_eq v (codes "get")) (Some (get f n)) (cond (bytes_eq v (codes "add")) (Some (add f n)) None)

abbrev pub asked : List (List ℕ) → Option Wish
asked [] = None
asked (v ∷ []) = lone_asked v
asked (v ∷ f ∷ []) = file_asked v f
asked (v ∷ f ∷ n ∷ []) = name_asked v f n
asked (v ∷ f ∷ n ∷ w ∷ ws) = None
