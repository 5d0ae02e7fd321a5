-- A CPU with other stores that wait, and with those of steps over its own.
use Rattle.store_cache.specs.Overlay.{Overlay}
use Rattle.tx_progress.specs.Local.{Local}
use Rattle.tx_marks.specs.Stranger.{upon, only_at}
use Rattle.tx_marks.specs.Traces.{Traces, is_stored}

abbrev pub with_waits : Overlay → Local → Local
with_waits waits local = record local { attempt = record local.attempt { overlay = waits } }

-- with what waits at marked places in another CPU
abbrev pub with_stores : Traces → Local → Local → Local
with_stores traces reached local =
    with_waits (upon (only_at (is_stored traces) reached.attempt.overlay) local.attempt.overlay) local
