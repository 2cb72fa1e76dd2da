-- `extents_weave::weave_map` meets its contract.
use Rattle.std.proofs.Common.{arith}
use Rattle.extents_weave.proofs.Weaving.{keep-ready, place-fits, move-fits, write-ready, clear-fits, woven-home}
use Rattle.extents_weave.proofs.weave_map.Goals as goal

pub rewrite-kept-requires : goal.rewrite-kept-requires
rewrite-kept-requires g c = keep-ready c.requires

pub overflow_sub-from : goal.overflow_sub-from
overflow_sub-from g c = (place-fits c.requires c.runs_in-all.ensures c.max-place.ensures c.rewrite-kept.ensures).0

pub overflow_mul-kept : goal.overflow_mul-kept
overflow_mul-kept g c = omega (arith, place-fits c.requires c.runs_in-all.ensures c.max-place.ensures c.rewrite-kept.ensures, c.requires.two.target_within, c.well_formed)

pub overflow_mul-from : goal.overflow_mul-from
overflow_mul-from g c = omega (arith, place-fits c.requires c.runs_in-all.ensures c.max-place.ensures c.rewrite-kept.ensures, c.requires.two.target_within, c.well_formed)

pub move_up-requires : goal.move_up-requires
move_up-requires g c = (omega arith, move-fits c.requires c.runs_in-all.ensures c.max-place.ensures c.rewrite-kept.ensures)

pub rewrite-n-requires : goal.rewrite-n-requires
rewrite-n-requires g c = write-ready c.requires c.runs_in-all.ensures c.max-place.ensures c.rewrite-kept.ensures c.move_up.auto.map c.move_up.ensures

pub overflow_mul-n : goal.overflow_mul-n
overflow_mul-n g c = omega (arith, place-fits c.requires c.runs_in-all.ensures c.max-place.ensures c.rewrite-kept.ensures, clear-fits c.requires c.runs_in-all.ensures c.max-place.ensures c.rewrite-kept.ensures c.move_up.auto.map c.move_up.ensures c.rewrite-n.ensures, c.requires.two.target_within, c.well_formed)

pub overflow_mul-place : goal.overflow_mul-place
overflow_mul-place g c = omega (arith, place-fits c.requires c.runs_in-all.ensures c.max-place.ensures c.rewrite-kept.ensures, clear-fits c.requires c.runs_in-all.ensures c.max-place.ensures c.rewrite-kept.ensures c.move_up.auto.map c.move_up.ensures c.rewrite-n.ensures, c.requires.two.target_within, c.well_formed)

pub clear_between-requires : goal.clear_between-requires
clear_between-requires g c = clear-fits c.requires c.runs_in-all.ensures c.max-place.ensures c.rewrite-kept.ensures c.move_up.auto.map c.move_up.ensures c.rewrite-n.ensures

pub returns : goal.returns
returns g c = woven-home c.requires c.runs_in-all.ensures c.max-place.ensures c.rewrite-kept.ensures c.move_up.auto.map c.move_up.ensures c.rewrite-n.ensures c.clear_between.auto.map c.clear_between.ensures
