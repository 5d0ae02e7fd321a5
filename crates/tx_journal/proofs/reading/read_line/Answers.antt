use Rattle.std.proofs.Common.{◌∷◌, [], Some}
use Rattle.std.proofs.lemmas.Bool.Decides.{Decides-eqb}
use Rattle.std.proofs.lemmas.Slice.Eq.{strip_suffix_is}
use Rattle.tx_journal.proofs.Readings.{with_end}
use Rattle.tx_journal.proofs.reading.read_line.Goals as goal

pub returns-clause-some : goal.returns-clause-some
returns-clause-some c =
    let ends =
    strip_suffix_is Decides-eqb c.args.text.now (10 ∷ []) (Some c.in_ok-words.words)
    c.in_ok-words.ensures.cases in
    with_end c.args.text.now c.in_ok-words.words.now c.read_words.result ends c.read_words.ensures.some
