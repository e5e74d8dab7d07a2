-- What a line is answered by the session that is open.
use Rattle.std.proofs.Common.{◌≡◌, ℕ}
use Rattle.replay.specs.declared.call.Call.TheVariants.{Survey}
use Rattle.replay.specs.declared.call.Line.TheVariants.{Call}
use Rattle.replay.specs.declared.desk.Desk.{Desk}
use Rattle.replay.specs.declared.desk.Desk.TheVariants as desk
use Rattle.replay.specs.Desks.{Open, nothing, Holds, line_reply, Opened, opened, LineAnswers, opened_next}
use Rattle.replay.specs.Replies.{Said}

-- a survey, which only a desk with nothing calls unreadable
pub survey_line : (d : Desk) (x : Said) (e : Opened) (b : ℕ) → e ≡ opened d → ((o : Open) → Holds d o → x ≡ line_reply o (Call (Survey b)))
    → LineAnswers (opened d) (Call (Survey b)) x × (e ≡ opened_next (opened d) (Call (Survey b)))
survey_line desk.Nothing x e b same goes = (goes nothing tt, same)
survey_line (desk.Words s) x e b same goes = (tt, same)
survey_line (desk.Truth s) x e b same goes = (tt, same)
