-- The program that a table holds.
use Rattle.std.specs.Prelude.{Ok, Err}
use Rattle.tables.specs.declared.table.Table.{Table}
use Rattle.tables.specs.Program.{Program}
use Rattle.questions.specs.Answer.{Answer}

abbrev pub view : Table → Program
view t = record { mutexes = t.mutexes; cells = t.cells; texts = t.texts; statements = t.statements }

-- what a table holds after Load: the new program if the file is accepted, else the old one
abbrev pub loaded : Answer → Program → Program → Program
loaded (Ok u) new old = new
loaded (Err e) new old = old
