use Rattle.std.proofs.Common.{◌≡◌, ◌++◌, List, Result, Ok, Err}
use Rattle.std.specs.Prelude.{OnOk, is_ok, if◌then◌else◌}
use Rattle.report_form.specs.declared.lines.Part.{Part}
use Rattle.report_form.specs.Sheet.{cpu_parts}
use Rattle.report_form.proofs.sheet.add_cpu.Goals as goal

extended : {B E : Type 0} (r : Result B E) (new old : List Part)
    → new ≡ (if is_ok r then old ++ cpu_parts else old) → OnOk r (new ≡ old ++ cpu_parts)
extended (Ok u) new old is = is
extended (Err e) new old is = tt

pub returns : goal.returns
returns c =
    extended c.extend_from_slice.result c.extend_from_slice.new.self.items c.args.parts.now.items
    c.extend_from_slice.ensures.items
