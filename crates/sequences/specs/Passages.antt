-- An instruction's act in three parts: the state that it leaves, whether it counts, and where the section goes on.
use Rattle.std.specs.Prelude.{ℕ, ◌+◌, Bool, true, false, cond, Ok, Err}
use Rattle.std.specs.declared.ops.ControlFlow.{ControlFlow}
use Rattle.std.specs.declared.ops.ControlFlow.TheVariants.{Continue, Break}
use Rattle.reports.specs.declared.stop.Stop.TheVariants as stop
use Rattle.reports.specs.Stops.{End}
use Rattle.sequences.specs.declared.act.Act.{Act}
use Rattle.sequences.specs.declared.act.Act.TheVariants.{On, Write, Mark, To, Back, Fail, Stop}
use Rattle.sequences.specs.declared.section.Section.{Section}
use Rattle.sequences.specs.declared.state.SeqState.{SeqState}
use Rattle.sequences.specs.Acts.{Called, called}
use Rattle.sequences.specs.States.{put, with_word}

abbrev pub performed : SeqState → ℕ → Act → SeqState
performed q i (On c) = q
performed q i (Write p c) = put q i p c
performed q i (Mark w v) = with_word q w.0 v
performed q i (To c a) = q
performed q i Back = q
performed q i Fail = q
performed q i Stop = q

-- whether a statement was carried out
abbrev pub counts : Act → Bool
counts (On c) = c
counts (Write p c) = true
counts (Mark w v) = true
counts (To c a) = c
counts Back = false
counts Fail = true
counts Stop = false

-- from the address h
abbrev pub passage : ℕ → Act → ControlFlow End ℕ
passage h (On c) = Continue (h + 1)
passage h (Write p c) = Continue (h + 1)
passage h (Mark w v) = Continue (h + 1)
passage h (To c a) = Continue a.0
passage h Back = Break (Ok tt)
passage h Fail = Break (Err stop.Failed)
passage h Stop = Break (Err stop.Cut)

-- one statement more, if it was completed
abbrev pub tally : Bool → ℕ → ℕ
tally c d = cond c (d + 1) d

-- how a section ended, with the state that it left
abbrev pub with_state : Section → SeqState → Called
with_state r q = called r.end r.count q
