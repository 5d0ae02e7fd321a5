-- Worked values of the definitions.
use Rattle.tx_journal.specs.declared.events.Event.TheVariants as event
