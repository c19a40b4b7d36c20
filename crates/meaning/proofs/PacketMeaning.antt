-- Packets answer the relation: the laws of this crate, one for each field. Assumes nothing.
use Prim.Native.Nat.{ℕ}
use mathlib.Core.List.{List}
use Rattle.tlv.specs.Number.{Bytes}
use Rattle.packet.specs.declared.field.Ask.TheVariants as Ask
use Rattle.meaning.specs.Meaning.{ParseCall, Questions, PacketMeaning}
use Rattle.meaning.proofs.One.{one_packet}
use Rattle.meaning.proofs.KindWords.{kinds}
use Rattle.meaning.proofs.Exactly.{packet_exactly}
use Rattle.meaning.proofs.Routes as routes
use Rattle.meaning.proofs.Asking as asking
use Rattle.meaning.proofs.Viewing as viewing
use Rattle.meaning.proofs.Fielding as fielding
use Rattle.meaning.proofs.Typing as typing
use Rattle.meaning.proofs.Ranges as ranges

call : ParseCall
call =
    record {
      exactly = λ k s s-bytes ds out exit r. packet_exactly k s s-bytes ds out exit r;
      one_packet = λ k tables ds os qs u v n m f g. one_packet k tables ds f g;
    }

asked : (k : ℕ) (s : List ℕ) → Bytes s → (ds : List ℕ) → Questions k s ds
asked k s s-bytes ds =
    let view = viewing.view_is k s s-bytes ds in
    let name = typing.type_name_is k s s-bytes ds in
    record {
      route = record { is = routes.route_is k s s-bytes ds; only = routes.route_only k s s-bytes ds };
      cm = record { is = routes.cm_is k s s-bytes ds; only = routes.cm_only k s s-bytes ds };
      is_read = record { is = routes.read_is k s s-bytes ds; only = routes.read_only k s s-bytes ds };
      is_write = record { is = routes.write_is k s s-bytes ds; only = routes.write_only k s s-bytes ds };
      is_xdomain = record { is = routes.xdomain_is k s s-bytes ds; only = routes.xdomain_only k s s-bytes ds };
      adapter_num = record { is = asking.adapter_is k s s-bytes ds; only = asking.adapter_only k s s-bytes ds };
      data_address = record { is = asking.address_is k s s-bytes ds; only = asking.address_only k s s-bytes ds };
      data_size = record { is = asking.size_is k s s-bytes ds; only = asking.size_only k s s-bytes ds };
      data_start = record { is = asking.start_is k s s-bytes ds; only = asking.start_only k s s-bytes ds };
      data_view = record { told = view.0; is = view.1; handed_is = view.2; only = viewing.view_only k s s-bytes ds };
      empty_at_start = viewing.empty_at_start ds;
      uuid = record { is = asking.uuid_is k s s-bytes ds; only = asking.uuid_only k s s-bytes ds };
      uuid_by_name = λ n. record { is = asking.uuid_by_name_is k s s-bytes ds n; only = asking.uuid_by_name_only k s s-bytes ds n };
      packet_type = record { is = typing.type_is k s s-bytes ds; only = typing.type_only k s s-bytes ds };
      packet_type_name = record { told = name.0; is = name.1; handed_is = name.2; only = typing.type_name_only k s s-bytes ds };
      field_by_offset = λ i. record { is = fielding.field_by_offset_is k s s-bytes ds i; only = fielding.field_by_offset_only k s s-bytes ds i };
      field_by_name = λ n. record { is = fielding.field_is k s s-bytes ds Ask.Named n; only = fielding.field_only k s s-bytes ds Ask.Named n };
      field_by_bitfield_name = λ n. record { is = fielding.field_is k s s-bytes ds Ask.Holds n; only = fielding.field_only k s s-bytes ds Ask.Holds n };
    }

pub packet_meaning : PacketMeaning
packet_meaning =
    record {
      kinds = kinds;
      packet = call;
      questions = asked;
      fields =
          λ s b.
          record {
            of_field = ranges.field_says s b;
            of_source = λ o f h. ranges.source_place s b o f.source h;
            one_nth = λ o dword k x y f g. ranges.one_range_at s b o dword k x y f g;
            one_named = λ o dword name x y f g. ranges.one_range_of_name s b o dword name x y f g;
            of_range = ranges.range_says s b;
            one_number_name = ranges.one_number_name;
            one_number_place = ranges.one_number_place s b;
            entry_name = ranges.entry_name_span s b;
            range_name = ranges.range_name_span s b;
            value_name = ranges.value_name_span s b;
          };
    }
