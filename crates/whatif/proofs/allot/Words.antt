-- The words that are allotted are enough: as for a run, with room for one chain more.
use Prim.Native.Nat.{ℕ, ◌+◌, ◌*◌, ◌≤◌}
use native.Mathlib.Omega.{arith}
use Rattle.book.specs.Header.{Limits}
use Rattle.book.specs.declared.header.Counts.{Counts}
use Rattle.saturation.specs.Run.{Holding, Small, rows_of}
use Rattle.saturation.proofs.allot.Words.{small_holding, large_holding}

longer : {h : Counts} {t s c l k : ℕ} → Holding h t s c l k → (d : ℕ) → c ≤ d → d ≤ 16388 → Holding h t s d l k
longer e d m n = record { links = e.links; says = e.says; chains = omega (arith, e.chains); labels = e.labels; leaves = e.leaves; most = (e.most.0, e.most.1, n, e.most.3, e.most.4) }

pub small_longer : {h : Counts} → Small h → rows_of h ≤ 64 → Holding h 512 1416 260 16 64 × (h.statements * 4 + 4 ≤ 260)
small_longer s m = (longer (small_holding s m) 260 (omega arith) (omega arith), omega (arith, s.statements))

pub large_longer : {h : Counts} {t : ℕ} → Limits h → rows_of h * 8 ≤ t → t ≤ 531480 → Holding h t 75784 16388 512 4096 × (h.statements * 4 + 4 ≤ 16388)
large_longer s m n = (longer (large_holding s m n) 16388 (omega arith) (omega arith), omega (arith, s.statements_top))
