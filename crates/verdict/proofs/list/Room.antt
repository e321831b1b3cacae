-- Of a table: its rows are there, and no edge leads from an individual that is not in the row of its role.
use Prim.Native.Nat.{ℕ, ◌+◌, ◌-◌, ◌*◌, ◌<◌, ◌≤◌}
use native.Mathlib.Omega.{arith}
use mathlib.Core.Path.{◌≡◌, sym, ◌∙◌}
use mathlib.Core.Bool.{false}
use mathlib.Core.List.{List, []}
use lib.ListN.{length}
use Rattle.rows.specs.Row.{has}
use Rattle.rows.specs.Table.{base, leads, flipped, Can, Table}
use Rattle.rows.specs.declared.table.Size.{Size}
use Rattle.rows.proofs.table.Sizes.{wide_other, row_room, first_room}
use Rattle.rules.specs.Fact.{Two, three}
use Rattle.rules.specs.Lists.{gather, only, entries2, entries3}
use Rattle.rules.proofs.Ended.{length_entries2, length_entries3}
use Rattle.rules.proofs.Tests.{not-true, false_true}
use Rattle.verdict.specs.Listing.{row_of, edges_from}
use Rattle.verdict.proofs.list.Gathers.{gather_over, only_false}

module _ {z : Size} {t : List ℕ} (k : Table z t) where
  -- a scan of n numbers stays inside the row of what field f leads a to, which has the number j
  pub lead_room : (f a : ℕ) {j n : ℕ} → j ≡ base z f + a → f + 1 < z.fields → a < z.individuals → n ≤ 512 → j * 512 + n ≤ length t * 64
  lead_room f a e l h i = let w = wide_other z f (λ q. omega arith) in omega (arith, row_room k f a (omega arith) (omega arith))

  -- and inside the row of what field f leads
  pub start_room : (f : ℕ) {n : ℕ} → f < z.fields → n ≤ 512 → f * 512 + n ≤ length t * 64
  start_room f l i = omega (arith, first_room k f l)

  -- a role's field can lead any individual to any other
  can : (r a b : ℕ) → 2 * r + 2 < z.fields → a < z.individuals → b < z.individuals → Can z (2 * r) a b
  can r a b l h i =
      let v = wide_other z (2 * r) (λ e. omega arith) in
      let f : flipped (2 * r) ≡ 2 * r + 1 = omega arith in
      let w = wide_other z (2 * r + 1) (λ e. omega arith) in
      record { field = omega arith; from = omega arith; to = rw f (omega arith) }

  -- no edge from an individual that the role does not lead
  pub edges_none : (r : ℕ) → 2 * r + 2 < z.fields → (a : ℕ) → a < z.individuals → has t (2 * r) a ≡ false → edges_from z t r a ≡ []
  edges_none r l a h e = gather_over 0 z.individuals _ (omega arith) (λ b p i.
      only_false (three r a b) (not-true (leads z t (2 * r) a b) (λ q. false_true (sym e ∙ k.starts (2 * r) a b (can r a b l h i) q))))

-- room for the edges of role r from a, whose row has the number j
pub edges_fit : (z : Size) (t : List ℕ) (r a at : ℕ) {j n : ℕ} → j ≡ base z (2 * r) + a → at + 3 * length (edges_from z t r a) ≤ n → at + length (entries3 (gather z.individuals (λ b. only (has t j b) (three r a b)))) ≤ n
edges_fit z t r a at e h = rw e (omega (arith, length_entries3 (edges_from z t r a)))

-- the types of i
abbrev pub types_from : Size → List ℕ → ℕ → List Two
types_from z t i = row_of i t (base z (z.fields - 2) + i) z.classes

-- room for them, where their row has the number j
pub types_fit : (z : Size) (t : List ℕ) (i at : ℕ) {j n : ℕ} → j ≡ base z (z.fields - 2) + i → at + length (entries2 (types_from z t i)) ≤ n → at + 2 * length (row_of i t j z.classes) ≤ n
types_fit z t i at e h = rw e (omega (arith, length_entries2 (types_from z t i)))
