-- Clash, of a table (src/verdict.rt).
use Rattle.std.specs.Prelude.{ℕ, ◌-◌, ◌*◌, ◌/◌, ◌<◌, ◌≡◌, Bool, true, false, not, ◌&&◌, ◌||◌, List, length, get_or, eqb}
use Rattle.rows.specs.Row.{has}
use Rattle.rows.specs.declared.table.Size.{Size}
use Rattle.rows.specs.Table.{leads}
use Rattle.rules.specs.Rule.{any, some}
use Rattle.tables.specs.Leaf.{marker_in}
use Rattle.said.specs.Layout.{part}
use Rattle.said.specs.declared.layout.Layout.{Layout}
use Rattle.said.specs.declared.layout.Relation.TheVariants.{Functional, Disjoint, Takers}

-- whether a number below n passes both tests
abbrev pub meeting : ℕ → (ℕ → Bool) → (ℕ → Bool) → Bool
meeting n f g = any n λ i. f i && g i

-- whether c and d count: any two classes, or only different ones
abbrev pub counting : Bool → ℕ → ℕ → Bool
counting own c d = own || not (eqb c d)

-- whether the individual of a row M c is also in that of a class d that is disjoint from c
abbrev pub row_clash_lem : ℕ → ℕ → List ℕ → Bool → (ℕ → ℕ → Bool) → ℕ → Bool
row_clash_lem n m dis own M c = any m λ d. has dis c d && (counting own c d && meeting n (M c) (M d))

unfoldable pub rows_clash_lem : ℕ → ℕ → List ℕ → Bool → (ℕ → ℕ → Bool) → Bool
rows_clash_lem n m dis own M = any m λ c. row_clash_lem n m dis own M c

-- whether a leaf is the marker (r, d)
abbrev pub marker_for : ℕ → ℕ → ℕ → Bool
marker_for r d x = some (marker_in x) λ k. eqb k.role r && eqb k.class d

-- whether class c takes one of the first n concepts whose leaf is the marker (r, d)
abbrev pub brings_marker : List ℕ → List ℕ → ℕ → ℕ → ℕ → ℕ → Bool
brings_marker takers L n r c d = any n λ k. has takers k c && marker_for r d (get_or L k 0)

-- whether one of the first m classes brings i the marker (r, d)
abbrev pub marker_row : Size → List ℕ → List ℕ → List ℕ → ℕ → ℕ → ℕ → ℕ → ℕ → Bool
marker_row z t takers L n r m d i = any m λ c. leads z t (z.fields - 1) c i && brings_marker takers L n r c d

-- the clash of a table t, by the rows S of a layout and the leaves L of its concepts: of classes; or of the markers of a role that is functional as named
unfoldable pub clash_in : Layout → List ℕ → List ℕ → List ℕ → Bool
clash_in l t S L =
    rows_clash_lem l.size.individuals l.size.classes (part l Disjoint S) true (λ c i. leads l.size t (l.size.fields - 1) c i)
    || any (l.size.fields / 2 - 1) (λ r. has (part l Functional S) 0 (2 * r) && rows_clash_lem l.size.individuals l.size.classes (part l Disjoint S) false (marker_row l.size t (part l Takers S) L l.concepts r l.size.classes))

-- the rows of v are those of u with, in row d, the numbers that pass f d
pub record RowsWith (u : List ℕ) (f : ℕ → ℕ → Bool) (v : List ℕ) : Type 0 where
  pub len : length v ≡ length u
  pub rows : (d i : ℕ) → d < 256 → i < 512 → has v d i ≡ (has u d i || f d i)
