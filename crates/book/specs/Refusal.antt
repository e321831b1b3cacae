-- The numbers of the refusals.
use Rattle.std.specs.Prelude.{ℕ}
use Rattle.book.specs.declared.refusal.Refusal.{Refusal}
use Rattle.book.specs.declared.refusal.Refusal.TheVariants.{LargeBudget, ShortEdgeList, ShortTypeList, CutOff, WrittenDefault, TooMany, UnknownKind, WrongMap, OutOfRange, BytesBehind, ShortPairList, ShortOutput, ShortRowList, UnknownReader, WrongTable, EndsBeforeStart, NoSuchQuestion, Other}

abbrev pub number : Refusal → ℕ
number LargeBudget = 1
number ShortEdgeList = 2
number ShortTypeList = 3
number CutOff = 4
number WrittenDefault = 5
number TooMany = 6
number UnknownKind = 7
number WrongMap = 8
number OutOfRange = 9
number BytesBehind = 10
number ShortPairList = 11
number ShortOutput = 12
number ShortRowList = 13
number UnknownReader = 14
number WrongTable = 15
number EndsBeforeStart = 16
number NoSuchQuestion = 17
number (Other x) = x.number
