use Rattle.z_deck.proofs.One.{one_holds, never_both, one_deck, one_fault}
use Rattle.z_deck.proofs.laws.bytes_are_one_of_two.Goals as goal

pub returns-clause-one : goal.returns-clause-one
returns-clause-one c = one_holds

pub returns-clause-not_both : goal.returns-clause-not_both
returns-clause-not_both c bytes storage origin number entry kind = never_both origin bytes storage entry number kind

pub returns-clause-one_deck : goal.returns-clause-one_deck
returns-clause-one_deck c bytes some others origin entry other = one_deck origin bytes some others entry other

pub returns-clause-one_fault : goal.returns-clause-one_fault
returns-clause-one_fault c bytes origin number other kind another =
    one_fault origin bytes number other kind another
