use Rattle.body.proofs.SurveyingLaws.{surveys}
use Rattle.body.proofs.surveying.survey_at.Goals as goal

pub further-whole-requires : goal.further-whole-requires
further-whole-requires c = search surveys

pub returns-then-seen : goal.returns-then-seen
returns-then-seen c = search surveys

pub returns-in-Last : goal.returns-in-Last
returns-in-Last c = search surveys

pub further-seen-requires : goal.further-seen-requires
further-seen-requires c = search surveys

pub loop-preserved : goal.loop-preserved
loop-preserved c = search surveys
