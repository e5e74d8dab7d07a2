-- The session that is open, and what a line of a script does.
use Rattle.kinds.specs.Truth.{truth}
use Rattle.kinds.specs.Words.{words}
use Rattle.jobs.specs.Keeps.{KeepsSession}
use Rattle.jobs.specs.Models.{Model, empty}
use Rattle.jobs.specs.Sessions.{Held, held, unused}
use Rattle.hosts.specs.declared.known.KnownKind.{KnownKind}
use Rattle.hosts.specs.declared.known.KnownKind.TheVariants as kind
use Rattle.replay.specs.declared.call.Line.{Line}
use Rattle.replay.specs.declared.call.Line.TheVariants.{New, Call}
use Rattle.replay.specs.declared.desk.Desk.{Desk}
use Rattle.replay.specs.declared.desk.Desk.TheVariants as desk
use Rattle.std.specs.Prelude.{◌≡◌}
use Rattle.replay.specs.Replies.{Said, new, unreadable, reply, next, Answers, held_next}

pub data Open : Type 0 where
  nothing : Open
  of_words : Model → Open
  of_truth : Model → Open

-- the desk has nothing, or a session of this kind that is as its model says
abbrev pub Holds : Desk → Open → Type 0
Holds desk.Nothing nothing = Unit {0}
Holds desk.Nothing (of_words m) = ⊥
Holds desk.Nothing (of_truth m) = ⊥
Holds (desk.Words s) nothing = ⊥
Holds (desk.Words s) (of_words m) = KeepsSession words s m
Holds (desk.Words s) (of_truth m) = ⊥
Holds (desk.Truth s) nothing = ⊥
Holds (desk.Truth s) (of_words m) = ⊥
Holds (desk.Truth s) (of_truth m) = KeepsSession truth s m

abbrev pub made_new : KnownKind → Open
made_new kind.Words = of_words empty
made_new kind.Truth = of_truth empty

-- a call before any new session is no call
abbrev pub line_reply : Open → Line → Said
line_reply o (New name) = new
line_reply nothing (Call c) = unreadable
line_reply (of_words m) (Call c) = reply words m c
line_reply (of_truth m) (Call c) = reply truth m c

abbrev pub line_next : Open → Line → Open
line_next o (New name) = made_new name
line_next nothing (Call c) = nothing
line_next (of_words m) (Call c) = of_words (next words m c)
line_next (of_truth m) (Call c) = of_truth (next truth m c)

-- what the session that is open holds, whatever it is
pub data Opened : Type 0 where
  none : Opened
  words_held : Held → Opened
  truth_held : Held → Opened

abbrev pub opened : Desk → Opened
opened desk.Nothing = none
opened (desk.Words s) = words_held (held s)
opened (desk.Truth s) = truth_held (held s)

abbrev pub opened_new : KnownKind → Opened
opened_new kind.Words = words_held unused
opened_new kind.Truth = truth_held unused

abbrev pub LineAnswers : Opened → Line → Said → Type 0
LineAnswers o (New name) a = a ≡ new
LineAnswers none (Call c) a = a ≡ unreadable
LineAnswers (words_held h) (Call c) a = Answers words h c a
LineAnswers (truth_held h) (Call c) a = Answers truth h c a

abbrev pub opened_next : Opened → Line → Opened
opened_next o (New name) = opened_new name
opened_next none (Call c) = none
opened_next (words_held h) (Call c) = words_held (held_next words h c)
opened_next (truth_held h) (Call c) = truth_held (held_next truth h c)
