-- The progress of an attempt after its outermost begin.
use Rattle.std.proofs.Common.{◌≡◌, ℕ, ◌+◌, Bool, true, false, List, [], ◌∷◌, ◌++◌, Option, Some, None, refl}
use Rattle.std.proofs.Common.{sym, ap, ◌∙◌, take}
use Rattle.std.specs.Prelude.{if◌then◌else◌, ◌-◌}
use Rattle.z_regs.specs.Cpu.{Cpu}
use Rattle.z_instr.specs.declared.instr.Instr.{Instr}
use Rattle.z_instr.specs.Table.{entry_at}
use Rattle.z_instr.specs.Roles.{begins, is_end}
use Rattle.z_effect.specs.Beginning.{begin_of}
use Rattle.z_effect.specs.One.{length_of}
use Rattle.tx_control.specs.declared.begins.Begin.{Begin}
use Rattle.tx_constraint.specs.Kept.{Kept, kept_at}
use Rattle.store_cache.specs.Overlay.{Store, nothing}
use Rattle.store_cache.specs.Stores.{Stores, lasting_bytes}
use Rattle.store_cache.specs.Entries.{stores_of}
use Rattle.store_cache.proofs.Overlays.{lasting_bytes-nothing}
use Rattle.tx_serial.specs.Run.{lasting_of}
use Rattle.tx_progress.specs.Progress.{advanced, resting, begins_constrained, laying}
use Rattle.tx_attempt.specs.Tracked.{Tracked, IsAtRest, progress}

pub none-lasting : (b : Bool) → ◌≡◌ {A = List Store} (if b then [] else []) []
none-lasting true = refl
none-lasting false = refl

nest-begun : (b e : Bool) (level : Begin) → b ≡ true
    → ◌≡◌ {A = List Begin} (level ∷ []) (if b then [] ++ level ∷ [] else if e then take (0 - 1) [] else [])
nest-begun true e level h = refl
nest-begun false e level h = absurd (cc)

-- the progress of an attempt that was begun by this CPU
pub begun-is : (t : Tracked) (nest : List Begin) (i : Instr) (c x : Cpu) (level : Begin) (k : Option Kept)
    (resumes : ℕ) (b : Bool) → IsAtRest t → begins (entry_at i.op.number) ≡ true
    → nest ≡ t.nest ++ level ∷ [] → level ≡ begin_of i x.general → begins_constrained i ≡ b
    → k ≡ (if b then Some (kept_at x.address) else None)
    → resumes ≡ (if b then x.address else x.address + length_of i)
    → progress (record {
      nest = nest;
      footprint = t.footprint;
      constraint = k;
      stores = t.stores;
      count = 1;
      resumes_at = resumes;
    }) c ≡ advanced i [] c [] (resting x)
begun-is t nest i c x level k resumes b r is en el eb ek er =
    let opens : nest ≡ (if begins (entry_at i.op.number) then [] ++ begin_of i x.general ∷ []
    else if is_end (entry_at i.op.number) then take (0 - 1) [] else []) =
    en ∙ ap (λ (bs : List Begin). bs ++ level ∷ []) r.nest ∙ ap (λ (l : Begin). l ∷ []) el
    ∙ nest-begun (begins (entry_at i.op.number)) (is_end (entry_at i.op.number)) (begin_of i x.general) is in
    let lasting : lasting_bytes (stores_of t.stores).lasting ≡ laying nothing (lasting_of i []) =
    ap (λ (s : Stores). lasting_bytes s.lasting) r.stores ∙ lasting_bytes-nothing
    ∙ sym (ap (laying nothing) (none-lasting _)) in
    let overlay : (stores_of t.stores).overlay ≡ nothing = ap (λ (s : Stores). s.overlay) r.stores in
    let constraint : k ≡ (if begins_constrained i then Some (kept_at x.address) else None) =
    ek ∙ sym (ap (λ z. if z then Some (kept_at x.address) else None) eb) in
    let again : resumes ≡ (if begins_constrained i then x.address else x.address + length_of i) =
    er ∙ sym (ap (λ z. if z then x.address else x.address + length_of i) eb) in
    λ j. record {
      cpu = c;
      overlay = overlay j;
      lasting = lasting j;
      nest = opens j;
      footprint = r.footprint j;
      constraint = constraint j;
      resumes_at = again j;
      count = 1;
    }
