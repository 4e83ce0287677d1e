-- `list::list_by` meets its contract: the listing is laid in the long room, and copied where it fits.
use native.Mathlib.Omega.{arith}
use lib.ListN.{length-take}
use Rattle.list.proofs.Listings.{count_inside, list_short, list_fits}
use Rattle.list.proofs.list_by.Goals as goal

pub returns-then-out-n : goal.returns-then-out-n
returns-then-out-n c =
    let got = list_short _ _ c.requires c.put_listing-n.ensures _ c.if-out-n.true in record {
      answer = got.0;
      left = got.1;
    }

pub slice_bounds-put_text-end : goal.slice_bounds-put_text-end
slice_bounds-put_text-end c = count_inside _ _ c.requires c.put_listing-n.ensures

pub slice_bounds-put_text-end-2 : goal.slice_bounds-put_text-end-2
slice_bounds-put_text-end-2 c = simp length-take (omega (arith, count_inside _ _ c.requires c.put_listing-n.ensures))

pub returns : goal.returns
returns c =
    let got = list_fits _ _ c.requires c.put_listing-n.ensures _ (omega arith) c.put_text.ensures in record {
      answer = got.0;
      left = got.1;
    }
