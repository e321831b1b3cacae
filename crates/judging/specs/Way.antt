-- How a record is judged: by the row that it starts from, and by its parts, each mixed into it.
use Rattle.std.specs.Prelude.{ℕ, ◌+◌, ◌-◌, ◌*◌, ◌<◌, ◌≤◌, Bool, true, false, ◌&&◌, ◌||◌, List, length, eqb}
use Rattle.book.specs.Read.{pick}
use Rattle.book.specs.Field.{number_at_lem}
use Rattle.book.specs.Tree.{Concept, nth, part_trees}
use Rattle.book.specs.Tree as tree
use Rattle.book.specs.Within.{RoleWithin, PartsWithin}
use Rattle.book.specs.declared.header.Counts.{Counts}
use Rattle.book.specs.declared.concept.ConceptExpr.{ConceptExpr}
use Rattle.book.specs.declared.concept.ConceptExpr.TheVariants.{Top, Bot, Atomic, Nominal, SelfRestriction, Not, And, Or, Some, All, Min, Max}
use Rattle.rules.specs.Fact.{edge, type}
use Rattle.rules.specs.Rule.{Set, any}
use Rattle.member.specs.Shown.{shown, shown_all, shown_some}
use Rattle.judging.specs.declared.way.Way.{Way}
use Rattle.judging.specs.declared.way.Way.TheVariants.{Leaf, Inner, Every, Any}

abbrev pub way_of : ConceptExpr → Way
way_of Top = Leaf
way_of Bot = Leaf
way_of (Atomic c) = Leaf
way_of (Nominal i) = Leaf
way_of (SelfRestriction r) = Leaf
way_of (Not c) = Leaf
way_of (And p) = Every p
way_of (Or p) = Any p
way_of (Some r c) = Inner r c
way_of (All r c) = Leaf
way_of (Min n r c) = Leaf
way_of (Max n r c) = Leaf

abbrev pub count_of_lem : Way → ℕ
count_of_lem Leaf = 0
count_of_lem (Inner r c) = 1
count_of_lem (Every p) = p.len
count_of_lem (Any p) = p.len

-- the number of part i
abbrev pub part_of : List ℕ → Way → ℕ → ℕ
part_of s Leaf i = 0
part_of s (Inner r c) i = c
part_of s (Every p) i = number_at_lem s (p.at + 2 * i)
part_of s (Any p) i = number_at_lem s (p.at + 2 * i)

-- the part list stands in the book
abbrev pub PartsInside : List ℕ → Way → Type 0
PartsInside s Leaf = Unit {0}
PartsInside s (Inner r c) = Unit {0}
PartsInside s (Every p) = p.at + 2 * p.len ≤ length s
PartsInside s (Any p) = p.at + 2 * p.len ≤ length s

-- a way of concept k: its role is the book's own, and each part has a lower number
abbrev pub WayIn : List ℕ → Counts → ℕ → Way → Type 0
WayIn s h k Leaf = Unit {0}
WayIn s h k (Inner r c) = RoleWithin h r × (c < k)
WayIn s h k (Every p) = PartsWithin s k p
WayIn s h k (Any p) = PartsWithin s k p

-- the class, individual or role that a record starts from is the book's own
abbrev pub StartIn : Counts → ConceptExpr → Type 0
StartIn h Top = Unit {0}
StartIn h Bot = Unit {0}
StartIn h (Atomic c) = c < h.classes
StartIn h (Nominal i) = i < h.individuals
StartIn h (SelfRestriction r) = RoleWithin h r
StartIn h (Not c) = Unit {0}
StartIn h (And p) = Unit {0}
StartIn h (Or p) = Unit {0}
StartIn h (Some r c) = Unit {0}
StartIn h (All r c) = Unit {0}
StartIn h (Min n r c) = Unit {0}
StartIn h (Max n r c) = Unit {0}

-- the role of a way is the book's own
abbrev pub RoleIn : Counts → Way → Type 0
RoleIn h Leaf = Unit {0}
RoleIn h (Inner r c) = RoleWithin h r
RoleIn h (Every p) = Unit {0}
RoleIn h (Any p) = Unit {0}

-- a part's row is mixed in: an And meets, all others join
abbrev pub mix : Way → Bool → Bool → Bool
mix Leaf a b = a || b
mix (Inner r c) a b = a || b
mix (Every p) a b = a && b
mix (Any p) a b = a || b

module _ (n : ℕ) (S : Set) (C : ℕ → ℕ → Bool) where
  -- what a record starts from
  abbrev pub start_of : ConceptExpr → ℕ → Bool
  start_of Top x = true
  start_of Bot x = false
  start_of (Atomic c) x = S (type x c)
  start_of (Nominal b) x = C x b
  start_of (SelfRestriction r) x = S (edge r x x)
  start_of (Not c) x = false
  start_of (And p) x = true
  start_of (Or p) x = false
  start_of (Some r c) x = false
  start_of (All r c) x = false
  start_of (Min m r c) x = false
  start_of (Max m r c) x = false

  -- what the parts from i on give
  abbrev pub rest : List ℕ → List Concept → Way → ℕ → ℕ → Bool
  rest s ts Leaf i x = false
  rest s ts (Inner r c) i x = pick (eqb i 0) (shown n S C (tree.Some r (nth ts c)) x) false
  rest s ts (Every p) i x = shown_all n S C (part_trees s ts (p.at + 2 * i) (p.len - i)) x
  rest s ts (Any p) i x = shown_some n S C (part_trees s ts (p.at + 2 * i) (p.len - i)) x

-- what the row of a part gives
abbrev pub given : ℕ → Set → Way → (ℕ → Bool) → ℕ → Bool
given n S Leaf row x = false
given n S (Inner r c) row x = any n λ y. S (edge r x y) && row y
given n S (Every p) row x = row x
given n S (Any p) row x = row x
