use Rattle.std.proofs.Common.{◌≡◌, ◌+◌, ◌≤◌, length}
use Rattle.octets.specs.Choice.{front}
use Rattle.octets.proofs.slices.front_length.Given as goal

abbrev pub invariant-loop-stride : goal.invariant-loop-stride
invariant-loop-stride g l = let p = g.T.Test.passing l.test in
    (length l.rest ≤ length l.s) × (length (front p l.s) + length l.rest ≡ length l.s + length (front p l.rest))

abbrev pub decreases-loop-stride : goal.decreases-loop-stride
decreases-loop-stride g l = length l.rest
