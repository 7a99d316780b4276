-- The examples of the C structs, by computation. Assumes nothing.
use mathlib.Core.Path.{refl}
use Rattle.field_signed.specs.Signed.{signed}
use Rattle.c_lent.specs.Structs.{stored, held}
use Rattle.thm_c_examples.specs.Structs.{StructExamples}

pub struct_examples : StructExamples
unfolding signed stored held
struct_examples =
    record {
      heartbeat = record { reads = refl; stores = refl };
      report = record { reads = refl; stores = refl };
      geometric = record { reads = refl; stores = refl };
      request = record { reads = refl; stores = refl };
      es_c_ident = record { reads = refl; stores = refl };
      s_c_baro = record { reads = refl; stores = refl };
      a_ident_baro = record { reads = refl; stores = refl };
      any_octet_but_0 = refl;
      initialization = record { reads = refl; stores = refl };
      header = record { reads = refl; stores = refl };
      stream = record { reads = refl; stores = refl };
      static = record { reads = refl; stores = refl };
      dynamic = record { reads = refl; stores = refl };
      status = record { reads = refl; stores = refl };
      traffic = record { reads = refl; stores = refl };
    }
