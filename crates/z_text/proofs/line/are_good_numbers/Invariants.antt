use Rattle.std.proofs.Common.{◌≡◌, true, take}
use Rattle.std.specs.List.{list_all}
use Rattle.z_text.specs.Tokens.{is_good_number}
use Rattle.z_text.proofs.line.are_good_numbers.Given as goal

abbrev pub invariant-loop-token : goal.invariant-loop-token
invariant-loop-token l = list_all (is_good_number l.text) (take l.token-index l.tokens) ≡ true
