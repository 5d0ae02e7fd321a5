-- An attempt at rest.
use Rattle.std.proofs.Common.{◌≡◌, ℕ, List, [], Option, Some, None, refl, sym, ap, ◌∙◌, arith}
use Rattle.std.proofs.lemmas.Bool.{true≢false}
use Rattle.z_regs.specs.Cpu.{Cpu}
use Rattle.tx_control.specs.declared.begins.Begin.{Begin}
use Rattle.tx_constraint.specs.Kept.{Kept}
use Rattle.tx_footprint.specs.Touched.{Touched, Sets, sets_of, untouched}
use Rattle.store_cache.specs.Overlay.{Overlay, nothing, has_block}
use Rattle.store_cache.specs.Stores.{Stores, no_stores, lasting_bytes}
use Rattle.store_cache.specs.Entries.{Entries, stores_of}
use Rattle.store_cache.proofs.Overlays.{lasting_bytes-nothing}
use Rattle.store_cache.proofs.Blocks.{has_block-nothing}
use Rattle.tx_progress.specs.Progress.{resting}
use Rattle.tx_control.specs.Nesting.{outermost_block}
use Rattle.tx_attempt.specs.Tracked.{Tracked, progress, IsAtRest, IsSound}

-- its progress is that of the CPU alone
pub progress-rests : (t : Tracked) (c : Cpu) → t.count ≡ 0 → IsAtRest t → progress t c ≡ resting c
progress-rests t c zero r = by_parts (ap (λ (s : Stores). s.overlay) r.stores)
    (ap (λ (s : Stores). lasting_bytes s.lasting) r.stores ∙ lasting_bytes-nothing)
    r.nest r.footprint r.constraint r.resumes_at zero
  where
    by_parts : {o l : Overlay} {nest : List Begin} {f : Sets} {k : Option Kept} {a n : ℕ}
        → o ≡ nothing → l ≡ nothing → nest ≡ [] → f ≡ untouched → k ≡ None → a ≡ 0 → n ≡ 0
        → record {
          cpu = c;
          overlay = o;
          lasting = l;
          nest = nest;
          footprint = f;
          constraint = k;
          resumes_at = a;
          count = n;
        } ≡ resting c
    by_parts eo el en ef ek ea ec i = record {
      cpu = c;
      overlay = eo i;
      lasting = el i;
      nest = en i;
      footprint = ef i;
      constraint = ek i;
      resumes_at = ea i;
      count = ec i;
    }

pub rested : (n : List Begin) (f : Touched) (s : Entries) → n ≡ [] → sets_of f ≡ untouched
    → stores_of s ≡ no_stores
    → IsAtRest (record { nest = n; footprint = f; constraint = None; stores = s; count = 0; resumes_at = 0 })
rested n f s en ef es = record {
  nest = en;
  footprint = ef;
  constraint = refl;
  stores = es;
  resumes_at = refl;
}

pub rested-sound : (n : List Begin) (f : Touched) (s : Entries) → n ≡ [] → sets_of f ≡ untouched
    → stores_of s ≡ no_stores
    → IsSound (record { nest = n; footprint = f; constraint = None; stores = s; count = 0; resumes_at = 0 })
rested-sound n f s en ef es = record {
  rests = λ _. rested n f s en ef es;
  opens = λ h. absurd (omega (arith, h));
  blocks = λ block h. absurd (true≢false (sym h ∙ ap (λ (x : Stores). has_block x.overlay block) es
      ∙ has_block-nothing block));
  inside = λ a h. ap (λ (x : Stores). x.overlay a) es;
  lasts = λ a h. ap (λ (x : Stores). lasting_bytes x.lasting a) es ∙ ap (λ (o : Overlay). o a)
      lasting_bytes-nothing;
  single = λ h. absurd (true≢false (sym h));
  few = λ k h. absurd (cc);
  counted = λ k h. absurd (cc);
  block = λ a h. let n : None ≡ Some a = sym (ap outermost_block en) ∙ h in absurd (cc);
}
