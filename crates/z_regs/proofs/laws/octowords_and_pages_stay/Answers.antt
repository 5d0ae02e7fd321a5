-- What is proved of octowords and pages.
use Rattle.z_regs.proofs.MovedBytes.{same_octowords, same_pages}
use Rattle.z_regs.proofs.laws.octowords_and_pages_stay.Goals as goal

pub returns-clause-octoword : goal.returns-clause-octoword
returns-clause-octoword c = same_octowords

pub returns-clause-page : goal.returns-clause-page
returns-clause-page c = same_pages
