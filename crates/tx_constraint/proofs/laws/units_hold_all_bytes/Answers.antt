use Rattle.tx_constraint.proofs.Whole.{in_doubleword, in_octoword}
use Rattle.tx_constraint.proofs.laws.units_hold_all_bytes.Goals as goal

pub returns-clause-doubleword : goal.returns-clause-doubleword
returns-clause-doubleword c = in_doubleword

pub returns-clause-octoword : goal.returns-clause-octoword
returns-clause-octoword c = in_octoword
