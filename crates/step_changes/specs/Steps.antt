-- A step, made and taken back.
use Rattle.std.specs.Prelude.{slice_set}
use Rattle.step_changes.specs.Changes.{redo, undo}
use Rattle.step_changes.specs.Parts.{put_part}
use Rattle.step_changes.specs.Seen.{Sight}
use Rattle.step_changes.specs.declared.view.Step.{Step}

abbrev pub forward_by : Step → Sight → Sight
forward_by s v = record {
  cpus = redo put_part s.parts.items v.cpus;
  words = redo slice_set s.words.items v.words;
  entries = s.after;
}

abbrev pub back_by : Step → Sight → Sight
back_by s v = record {
  cpus = undo put_part s.parts.items v.cpus;
  words = undo slice_set s.words.items v.words;
  entries = s.before;
}
