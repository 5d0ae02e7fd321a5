-- The steps of reading a decimal number from its first digit on.
use Rattle.z_text.proofs.Numbers.{number_steps, number_too_big}

pub ruleset steps = (number_steps, number_too_big)
