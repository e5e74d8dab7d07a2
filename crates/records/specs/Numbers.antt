-- The numbers of refusals.
use Rattle.std.specs.Prelude.{ℕ}
use Rattle.records.specs.declared.refusal.Refusal.{Refusal}
use Rattle.records.specs.declared.refusal.Refusal.TheVariants.{Length, Mark, Missing, Trailing, KindByte, Counts, Index, ThreadSize, Unused, Operation, Place, Code, Target, Mutex, Thread, CreatedTwice, NotLoaded, Rounds, NotTranslated, Budget, LeafLimit, ListLength, BufferShort, NothingFound}

abbrev pub number : Refusal → ℕ
number Length = 11
number Mark = 12
number Missing = 13
number Trailing = 14
number KindByte = 21
number Counts = 22
number Index = 23
number ThreadSize = 24
number Unused = 25
number Operation = 31
number Place = 32
number Code = 33
number Target = 34
number Mutex = 35
number Thread = 36
number CreatedTwice = 37
number NotLoaded = 41
number Rounds = 42
number NotTranslated = 43
number Budget = 44
number LeafLimit = 45
number ListLength = 46
number BufferShort = 47
number NothingFound = 48
