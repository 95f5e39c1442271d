use Rattle.ubi_compose.proofs.Prelude.{◌∙◌, ap, map, subst, IsFirstMade, Items, NoCause, stand_in_item}
use Rattle.ubi_compose.proofs.StandIns.{first_of_bytes, none_of_bytes}
use Rattle.ubi_compose.proofs.built_image.Recipe.new.Goals as goal

pub invariant_of-result : goal.invariant_of-result
invariant_of-result c =
    let s = c.args.geometry.now in
    let items = c.in_ok-volumes.ensures ∙ ap (map (stand_in_item s)) c.as_slice.ensures.value in
    let none = subst (λ (items : Items). NoCause s items) items c.in-Ok.ensures.made.0 in
    record {
      sizes = c.peb_size.ensures.limits;
      image_seq = c.ranges.image_seq.fits;
      none = λ bytes reaches. none_of_bytes s c.args.parts.items bytes reaches none;
    }

pub returns-in-Ok-clause-meaning : goal.returns-in-Ok-clause-meaning
returns-in-Ok-clause-meaning c =
    let s = c.args.geometry.now in
    let items = c.in_ok-volumes.ensures ∙ ap (map (stand_in_item s)) c.as_slice.ensures.value in
    let none = subst (λ (items : Items). NoCause s items) items c.in-Ok.ensures.made.0 in
    record {
      sizes = c.peb_size.ensures.limits;
      image_seq = c.ranges.image_seq.fits;
      none = λ bytes reaches. none_of_bytes s c.args.parts.items bytes reaches none;
    }

pub returns-in-Err-clause-refused : goal.returns-in-Err-clause-refused
returns-in-Err-clause-refused c = λ bytes reaches.
    let s = c.args.geometry.now in
    let items = c.in_ok-volumes.ensures ∙ ap (map (stand_in_item s)) c.as_slice.ensures.value in
    first_of_bytes s c.args.parts.items bytes reaches c.in-Err.error.cause
    (subst (λ (items : Items). IsFirstMade s items c.in-Err.error.cause) items c.in-Err.ensures.cause)
