-- `intervalcalls::surfaces::start_of` meets its contract. Assumes nothing.
use Rattle.intervalcalls.proofs.surfaces.start_of.Goals as goal

pub returns : goal.returns
returns c = rw (c.exact.ensures, c.exact-2.ensures)
