use Rattle.std.proofs.Common.{◌≡◌, true, ap, ◌∙◌, arith}
use Rattle.std.specs.Prelude.{ℤ, pos, negsuc}
use Rattle.std.proofs.lemmas.Grind.{common_steps}
use Rattle.tx_control.specs.Begins.{asked_by}
use Rattle.z_instr.specs.Ranges.{is_within, half}
use Rattle.z_instr.specs.Reading.{modulo}
use Rattle.z_effect.proofs.transactions.asked.Goals as goal

-- an immediate without a sign, as the halfword that the code makes of it
level : (z : ℤ) → is_within half z ≡ true →
    lib.IntN.nat_abs (mir.Val.to_z mir.Syntax.w64 (mir.Val.of_z mir.Syntax.w64 z)) ≡ modulo 16 z
level (pos n) h = grind (arith, common_steps, h)
level (negsuc n) h = grind (arith, common_steps, h)

pub returns : goal.returns
returns c =
    c.of.ensures
    ∙ ap (λ n. asked_by n c.args.block c.args.constrained) (level c.args.instr.now.imm c.requires)
