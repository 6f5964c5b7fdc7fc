use Rattle.inc_fs.specs.Listings.{look_is_exact, look_ascends, list_is_exact, list_ascends}
use Rattle.inc_fs.proofs.laws.listings_are_exact.Goals as goal

pub returns : goal.returns
returns c = record {
  look = λ F G who krate entry names s. look_is_exact F G krate names entry s;
  look_ascends = λ F G who krate names t s. look_ascends F G krate names t s;
  list = λ F G who krate entry file names s. list_is_exact F G krate names entry file s;
  list_ascends = λ F G who krate entry names t s. list_ascends F G krate names entry t s;
}
