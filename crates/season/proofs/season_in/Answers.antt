-- `season_in` meets its contract: the orders before a record are added up, and one begins there (Adding).
use Prim.Native.Nat.{◌+◌, ◌-◌}
use native.Mathlib.Omega.{arith}
use Rattle.model.specs.Limits.{most_streamed}
use Rattle.season.proofs.Adding.{adding_all, adding_none, adding_order}
use Rattle.model.proofs.Streams.{next_most}
use Rattle.season.proofs.OneMore.{fits_up}
use Rattle.season.proofs.season_in.Goals as goal

pub record_count-n-requires : goal.record_count-n-requires
record_count-n-requires c = tt

pub new-season-requires : goal.new-season-requires
new-season-requires c = tt

pub loop-i-init : goal.loop-i-init
loop-i-init c = adding_none c.record_count-n.ensures c.requires.1 c.new-season.ensures

pub next_fans-next-requires : goal.next_fans-next-requires
next_fans-next-requires c = (c.record_count-n.ensures, omega arith)

pub overflow_mul-a : goal.overflow_mul-a
overflow_mul-a c =
    let most = next_most c.args.stream.now (c.loop-i.i + 1) (c.record_count-n.result - (c.loop-i.i + 1)) in
    omega (arith, c.next_fans-next.ensures, most)

pub overflow_mul-b : goal.overflow_mul-b
overflow_mul-b c =
    let most = next_most c.args.stream.now (c.loop-i.i + 1) (c.record_count-n.result - (c.loop-i.i + 1)) in
    omega (arith, c.next_fans-next.ensures, most)

pub slice_bounds-order_comes-count : goal.slice_bounds-order_comes-count
slice_bounds-order_comes-count c = omega (arith, c.next_fans-next.ensures)

pub slice_bounds-order_comes-start : goal.slice_bounds-order_comes-start
slice_bounds-order_comes-start c = omega (arith, c.next_fans-next.ensures)

pub slice_bounds-order_comes-end : goal.slice_bounds-order_comes-end
slice_bounds-order_comes-end c =
    let most = next_most c.args.stream.now (c.loop-i.i + 1) (c.record_count-n.result - (c.loop-i.i + 1)) in
    omega (arith, c.next_fans-next.ensures, most, c.loop-i.invariant.count)

pub order_comes-requires : goal.order_comes-requires
order_comes-requires c = tt

pub with-season-requires : goal.with-season-requires
with-season-requires c =
    let L = c.loop-i in
    (fits_up L.i (most_streamed - 1) L.season (omega arith) L.invariant.fits, c.order_comes.ensures.1)

pub loop-i-smaller : goal.loop-i-smaller
loop-i-smaller c =
    let most = next_most c.args.stream.now (c.loop-i.i + 1) (c.record_count-n.result - (c.loop-i.i + 1)) in
    omega (arith, c.next_fans-next.ensures, most)

pub loop-i-preserved : goal.loop-i-preserved
loop-i-preserved c =
    let most = next_most c.args.stream.now (c.loop-i.i + 1) (c.record_count-n.result - (c.loop-i.i + 1)) in
    adding_order c.order_comes.result c.loop-i.invariant (omega arith) c.next_fans-next.ensures
    c.order_comes.ensures.0 c.order_comes.ensures.1 c.with-season.ensures

pub returns : goal.returns
returns c = adding_all c.loop-i.invariant (omega arith)
