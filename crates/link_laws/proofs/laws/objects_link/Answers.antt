use Rattle.link_laws.proofs.Images.{clean_tells, image_there, lines_there}
use Rattle.link_laws.proofs.Makes.{built_makes}
use Rattle.link_laws.proofs.Objects.{Given}
use Rattle.link_laws.proofs.laws.objects_link.Goals as goal

pub returns : goal.returns
returns c =
    let texts = c.texts_are_read.ensures.text in
    let trees = c.trees_are_tidy.ensures in
    let members = c.members_are_reached.ensures in
    let given : Given = record { plain = trees.names; roots = c.search_is_exact.ensures.roots; reached = members.members; once = members.once; missing = members.none } in
    record {
      image = λ bytes level compiled b is built. image_there given level b (built_makes texts trees.tidy bytes level compiled b is built);
      clean = λ bytes level b ls is lines. clean_tells given texts trees.tidy c.texts_have_one_build.ensures.only bytes level b ls is lines;
      lines = lines_there c.texts_have_one_diagnosis.ensures.is;
    }
