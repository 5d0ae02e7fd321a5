use Rattle.tx_constraint.proofs.Attempts.{octowords_begun, kept_step, text_step, operand_step, few_steps, few_octowords}
use Rattle.tx_constraint.proofs.laws.the_list_decides.Goals as goal

pub returns-clause-begins : goal.returns-clause-begins
returns-clause-begins c = octowords_begun

pub returns-clause-adds : goal.returns-clause-adds
returns-clause-adds c = kept_step

pub returns-clause-text : goal.returns-clause-text
returns-clause-text c = text_step

pub returns-clause-operands : goal.returns-clause-operands
returns-clause-operands c = operand_step

pub returns-clause-few : goal.returns-clause-few
returns-clause-few c = few_steps

pub returns-clause-octowords : goal.returns-clause-octowords
returns-clause-octowords c = few_octowords
