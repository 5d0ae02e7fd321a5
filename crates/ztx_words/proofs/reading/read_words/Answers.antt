use Rattle.std.proofs.Common.{string_bytes}
use Rattle.ztx_words.proofs.Others.{other_words}
use Rattle.ztx_words.proofs.reading.read_words.Goals as goal

pub returns-in_default-as_str-clause-value : goal.returns-in_default-as_str-clause-value
returns-in_default-as_str-clause-value c =
    other_words string_bytes c.args.words.now c.in-Some.name.now c.as_str.result.now c.in-Some.ensures.value
    c.as_str.ensures.value
    (record {
      list = c.in_default-as_str.not-list;
      run = c.in_default-as_str.not-run;
      race = c.in_default-as_str.not-race;
      generate = c.in_default-as_str.not-generate;
      summary = c.in_default-as_str.not-summary;
      check = c.in_default-as_str.not-check;
      heat = c.in_default-as_str.not-heat;
      deck = c.in_default-as_str.not-deck;
      step = c.in_default-as_str.not-step;
    })
