-- A program, and the one that a file's records say.
use Rattle.std.specs.Prelude.{ℕ, ◌+◌, cond, List, [], ◌∷◌, ◌++◌, map, take, drop, filter, Option, slice_index_or}
use Rattle.std.specs.List.{slice_get}
use Rattle.tables.specs.declared.text.ThreadText.{ThreadText}
use Rattle.records.specs.declared.statement.Statement.{Statement}
use Rattle.records.specs.Bodies.{a, c, d, statement}
use Rattle.records.specs.Lines.{line, lines, body, sc, th, st}

-- its mutexes by their count, its cells by their initial codes, its threads' texts, and all their statements in one list
pub record Program : Type 0 where
  pub mutexes : ℕ
  pub cells : List ℕ
  pub texts : List ThreadText
  pub statements : List Statement

-- the code in an SC record
abbrev pub code : List ℕ → ℕ
code r = c (body r)

-- the statement in an ST record
abbrev pub told : List ℕ → Statement
told r = statement (body r)

-- the text that a TH record begins, whose statements start at a place in the list
abbrev pub text : ℕ → List ℕ → ThreadText
text at r = record { locals = d (body r); first = at; size = a (body r) }

-- the texts that TH records begin, one behind the other
abbrev pub texts : ℕ → List (List ℕ) → List ThreadText
texts at [] = []
texts at (r ∷ rs) = text at r ∷ texts (at + a (body r)) rs

-- the program with what some records add to it
abbrev pub onto : Program → ℕ → List (List ℕ) → Program
onto p at rs = record {
  mutexes = p.mutexes;
  cells = p.cells ++ map code (filter sc rs);
  texts = p.texts ++ texts at (filter th rs);
  statements = p.statements ++ map told (filter st rs);
}

-- a program with m mutexes and nothing else
abbrev pub bare : ℕ → Program
bare m = record { mutexes = m; cells = []; texts = []; statements = [] }

-- the program in a file
abbrev pub decoded : List ℕ → Program
decoded f = onto (bare (a (body (line f 0)))) 0 (lines f)

-- the program with what one record adds to it
abbrev pub with_record : Program → ℕ → List ℕ → Program
with_record p at r = record {
  mutexes = p.mutexes;
  cells = cond (sc r) (p.cells ++ code r ∷ []) p.cells;
  texts = cond (th r) (p.texts ++ text at r ∷ []) p.texts;
  statements = cond (st r) (p.statements ++ told r ∷ []) p.statements;
}

-- where the statements of the text behind a record start
abbrev pub behind : ℕ → List ℕ → ℕ
behind at r = cond (th r) (at + a (body r)) at

-- what stands where a program has no thread
abbrev pub no_text : ThreadText
no_text = record { locals = 0; first = 0; size = 0 }

abbrev pub text_of : Program → ℕ → ThreadText
text_of p i = slice_index_or p.texts i no_text

-- how many statements thread i has
abbrev pub size : Program → ℕ → ℕ
size p i = (text_of p i).size

-- the statements of thread i
abbrev pub own : Program → ℕ → List Statement
own p i = take (text_of p i).size (drop (text_of p i).first p.statements)

-- the statement of thread i at the label t, if there is one
abbrev pub due : Program → ℕ → ℕ → Option Statement
due p i t = slice_get (own p i) t
