-- The words that are lent to a listing are enough.
use Prim.Native.Nat.{ℕ, ◌+◌, ◌-◌, ◌*◌, ◌≤◌}
use native.Mathlib.Nat.{mul-le-mul_right}
use native.Mathlib.Omega.{arith}
use lib.ListN.{replicate}
use Rattle.book.specs.Header.{Limits}
use Rattle.book.specs.declared.header.Counts.{Counts}
use Rattle.rows.specs.Table.{base}
use Rattle.tables.proofs.Blank.{blank}
use Rattle.saturation.specs.Run.{Small, rows_of}
use Rattle.derivation.proofs.Preparing.{enough}
use Rattle.steps.specs.Written.{class_row_lem}
use Rattle.listing.specs.Filled.{Fresh, Holding}

-- no book asks for more words than these
most_words : (h : Counts) → Limits h → class_row_lem h h.individuals * 8 ≤ 536616
unfolding base
most_words h t =
    let m = mul-le-mul_right {m = 2 * h.roles + 2 - 1} {n = 129} h.individuals (omega (arith, t.roles_top)) in
    omega (arith, t.roles_top, t.individuals_top, t.classes_top)

-- tables of enough words are fresh
pub fresh_of : {h : Counts} {t p d : ℕ} → Holding h t p d → Fresh h (replicate t 0) (replicate p 0) (replicate d 0)
fresh_of {h} {t} {p} {d} e = record {
  blank = blank t;
  room = enough t (class_row_lem h h.individuals * 8) e.links;
  takers_blank = blank p;
  takers = enough p (h.concepts * 8) e.takers;
  deep_blank = blank d;
  deep = enough d (h.concepts * 64) e.deep;
}

-- what is enough for any book, and for a small one
pub many_holding : {h : Counts} → Limits h → Holding h 536616 32768 262144
many_holding {h} l = record { links = most_words h l; takers = omega (arith, l.concepts_top); deep = omega (arith, l.concepts_top); most = (omega arith, omega arith, omega arith) }

pub few_holding : {h : Counts} → Small h → rows_of h ≤ 64 → Holding h 720 512 4096
few_holding {h} s l = record { links = omega (arith, l, s.roles, s.individuals); takers = omega (arith, s.concepts); deep = omega (arith, s.concepts); most = (omega arith, omega arith, omega arith) }
