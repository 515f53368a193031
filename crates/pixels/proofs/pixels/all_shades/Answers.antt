use Rattle.std.proofs.Common.{◌≡◌, ◌∙◌, true, ◌&&◌, arith}
use Rattle.std.proofs.lemmas.Grind.{common_steps}
use Rattle.std.specs.List.{fold}
use Rattle.pixels.specs.InnerHalves.{are_shades}
use Rattle.pixels.proofs.PixelsLaws.{fold_all}
use Rattle.pixels.proofs.pixels.all_shades.Goals as goal

pub returns : goal.returns
returns c =
    let e : c.fold.result ≡ fold (λ a x. a && are_shades x) true c.args.s.now = grind (arith, common_steps) in
    e ∙ fold_all are_shades c.args.s.now true
