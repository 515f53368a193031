use Rattle.configuration.proofs.Laying.{laying}
use Rattle.configuration.proofs.records.lay.Goals as goal

pub loop-head-init : goal.loop-head-init
loop-head-init c = search laying

pub slot-requires : goal.slot-requires
slot-requires c = search laying

pub bounds-places-slot : goal.bounds-places-slot
bounds-places-slot c = search laying

pub size_in-size-requires : goal.size_in-size-requires
size_in-size-requires c = search laying

pub lay_file-requires : goal.lay_file-requires
lay_file-requires c = search laying

pub overflow_add-place-in-loop-head : goal.overflow_add-place-in-loop-head
overflow_add-place-in-loop-head c = search laying

pub loop-head-preserved : goal.loop-head-preserved
loop-head-preserved c = search laying

pub returns : goal.returns
returns c = search laying
