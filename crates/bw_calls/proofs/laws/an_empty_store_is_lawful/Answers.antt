use Rattle.std.proofs.Common.{refl}
use Rattle.bw_calls.proofs.laws.an_empty_store_is_lawful.Goals as goal

pub returns : goal.returns
returns c = record {
  lawful = record {
    values = record {
      long = λ k n len e. absurd (cc e);
      full = λ k n len i e fits. absurd (cc e);
      once = λ k q n first second e f. absurd (cc e);
      kept = λ k n first e. absurd (cc e);
      known = λ at e free. absurd (cc e);
    };
    names = record {
      wide = λ name row e. absurd (cc e);
      apart = λ name other row its e f same. absurd (cc e);
    };
    homes = λ k there. absurd (cc there);
    quiet = refl;
  };
  its = refl;
}
