use native.Mathlib.Omega.{arith}
use Prim.Native.Nat.{ℕ}
use lib.ListN.{length-replicate}
use Rattle.tables.proofs.Blank.{blank}
use Rattle.derivation.proofs.Preparing.{enough}
use Rattle.derivation.proofs.check.judge_stated.Goals as goal

pub judge_deep-requires : goal.judge_deep-requires
judge_deep-requires c = record { stated = c.requires.stated; denied = c.requires.denied; slots_len = (length-replicate {0} {A = ℕ} 65793 0, enough 262144 262144 (omega arith)); blank = blank 262144 }
