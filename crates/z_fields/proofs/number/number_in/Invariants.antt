use Rattle.std.proofs.Common.{◌≡◌, ◌<◌, ◌^◌, drop}
use Rattle.z_text.specs.Numbers.{number_behind}
use Rattle.z_fields.proofs.number.number_in.Given as goal

abbrev pub invariant-loop-b : goal.invariant-loop-b
invariant-loop-b l = record {
  same : number_behind 10 l.number
      (drop l.b-index l.digits) ≡ number_behind 10 0 l.digits;
  fits : l.number < 2 ^ 64;
}
