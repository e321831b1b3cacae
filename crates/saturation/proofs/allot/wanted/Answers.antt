use native.Mathlib.Omega.{arith}
use Rattle.saturation.proofs.allot.Words.{small_enough, cache_enough, some_enough, any_enough}
use Rattle.saturation.proofs.allot.wanted.Goals as goal

pub table_rows-rows-requires : goal.table_rows-rows-requires
table_rows-rows-requires c = rw c.size_of.ensures c.requires

pub returns-then-is_small : goal.returns-then-is_small
returns-then-is_small c = let e = rw c.size_of.ensures at c.table_rows-rows.ensures in small_enough (c.is_small.ensures c.if-is_small.true) (omega arith)

pub returns-then-rows-le64 : goal.returns-then-rows-le64
returns-then-rows-le64 c = let e = rw c.size_of.ensures at c.table_rows-rows.ensures in cache_enough c.args.counts (omega arith)

pub returns-then-rows-le2048 : goal.returns-then-rows-le2048
returns-then-rows-le2048 c = let e = rw c.size_of.ensures at c.table_rows-rows.ensures in cache_enough c.args.counts (omega arith)

pub returns-then-rows-le16384 : goal.returns-then-rows-le16384
returns-then-rows-le16384 c = let e = rw c.size_of.ensures at c.table_rows-rows.ensures in some_enough c.args.counts (omega arith)

pub returns : goal.returns
returns c = any_enough c.args.counts
