use Rattle.sound_laws.proofs.Legal.{known_cpus, sound_causes}
use Rattle.sound_laws.proofs.laws.legal_entries_have_cpus_and_causes.Goals as goal

pub returns : goal.returns
returns c = record { cpus = known_cpus; causes = sound_causes }
