use native.Mathlib.Omega.{arith}
use Rattle.octets.proofs.SlicesLaws.{front-stride, fronts}
use Rattle.octets.proofs.slices.front_length.Goals as goal

pub loop-stride-preserved : goal.loop-stride-preserved
loop-stride-preserved g c =
    let cut = c.in-Some.ensures.cases in
    let on = front-stride (g.T.Test.passing c.args.test.now) c.loop-stride.rest.now c.in-Some.stride.now c.in-Some.behind.now c.all_pass.result c.all_pass.ensures
    c.if-not-all_pass.false cut.0 cut.1 cut.2 in
    (omega (arith, cut.2), omega (arith, on, cut.2))

pub overflow_add-result : goal.overflow_add-result
overflow_add-result g c = search fronts
