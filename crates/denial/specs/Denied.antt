-- The facts that statements deny.
use Rattle.std.specs.Prelude.{ℕ, List}
use Rattle.book.specs.Statement.{bodies}
use Rattle.book.specs.declared.statement.Statement.{Statement}
use Rattle.rules.specs.Brought.{from}
use Rattle.rules.specs.Clash.{denied_by}

abbrev pub denied_of : List Statement → List ℕ
denied_of xs = from (bodies xs) denied_by
