use Rattle.effects.proofs.RecordingLaws.{recording}
use Rattle.effects.proofs.recording.fault_noted.Goals as goal

pub returns-in-20 : goal.returns-in-20
returns-in-20 c = search recording

pub returns-in-21 : goal.returns-in-21
returns-in-21 c = search recording

pub returns-in_default : goal.returns-in_default
returns-in_default c = search recording
