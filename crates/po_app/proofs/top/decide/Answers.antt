use Rattle.po_app.proofs.Outcomes.{answers_usage, answers_decided, answers_too_long, answers_read_fault}
use Rattle.po_app.proofs.top.decide.Goals as goal

pub returns-in_default-clause-decided : goal.returns-in_default-clause-decided
returns-in_default-clause-decided g c = answers_usage _ _ _ c.in_default.ensures.none c.in_ok-from_slice.ensures.items

pub returns-in_ok-judge-in-Ok-clause-decided : goal.returns-in_ok-judge-in-Ok-clause-decided
returns-in_ok-judge-in-Ok-clause-decided g c = answers_decided _ _ _ _ _ _ _ _ c.in-Some.ensures.found c.in-Ok.ensures.bytes c.as_slice.ensures c.in_ok-judge-in-Ok.ensures

pub returns-in_ok-line_of-in-Err-TooLong-clause-decided : goal.returns-in_ok-line_of-in-Err-TooLong-clause-decided
returns-in_ok-line_of-in-Err-TooLong-clause-decided g c = answers_too_long _ _ _ _ c.in-Some.ensures.found (rw c.in-Err-TooLong.field-0-is at c.in-Err-TooLong.ensures.bytes) c.in_ok-line_of-in-Err-TooLong.ensures

pub returns-in_ok-line_of-in-Err-Failed-clause-decided : goal.returns-in_ok-line_of-in-Err-Failed-clause-decided
returns-in_ok-line_of-in-Err-Failed-clause-decided g c = answers_read_fault _ _ _ _ c.in-Some.ensures.found c.in_ok-line_of-in-Err-Failed.ensures
