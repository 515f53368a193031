use Rattle.body.proofs.SurveyingLaws.{Surveying}
use Rattle.body.proofs.surveying.survey_at.Given as goal

abbrev pub invariant-loop : goal.invariant-loop
invariant-loop l = Surveying l.s l.from l.at l.counter l.seen
