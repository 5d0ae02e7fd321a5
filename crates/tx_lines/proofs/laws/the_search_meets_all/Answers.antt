use Rattle.tx_lines.proofs.Next.{all_against}
use Rattle.tx_lines.proofs.laws.the_search_meets_all.Goals as goal

pub returns : goal.returns
returns c cpus held cpu line wanted = all_against cpus held cpu line wanted
