-- `Log::find` calls what is asked for. Assumes nothing.
use native.Mathlib.Omega.{arith}
use Rattle.catalog.proofs.Laws.Bounds.{is_log}
use Rattle.catalog.proofs.log.Log.find.Goals as goal

pub seek-requires : goal.seek-requires
seek-requires c =
    let log = is_log _ _ c.in_ok-log.ensures in
    omega (arith, log.long, log.good.fits.small, log.good.fits.inside)
