-- A config that is written, on literals.
use Rattle.ubi_config.proofs.Prelude.{◌≡◌, [], ◌∷◌, ◌++◌, refl, true, false, Some, None, codes, digits, small, config_text, head, is_writable, left_out, text_of, ConfigVolume}
use Rattle.ubi_media.specs.declared.vid.VolKind.TheVariants as kind

-- a static volume of an alignment that leaves bytes free, with a quote in its name
abbrev boot : ConfigVolume
boot = record {
  id = 1;
  entry = record {
    reserved = 2;
    alignment = 256;
    kind = kind.Static;
    marker = false;
    name = codes "a\"b";
    flags = 2;
  };
  image = Some (codes "1-a\"b");
}

-- the same, of other flags, with the update marker, and with both quotes in its name
abbrev odd : ConfigVolume
odd = record boot { id = 2; entry = record boot.entry { flags = 6 } }

abbrev marked : ConfigVolume
marked = record boot { id = 3; entry = record boot.entry { marker = true } }

abbrev both : ConfigVolume
both = record boot { id = 4; entry = record boot.entry { name = codes "'\"" } }

-- the same, whose bytes can't be read
abbrev damaged : ConfigVolume
damaged = record boot { id = 5; image = None }

-- its section, and why the others have none
written : config_text small 7 (boot ∷ odd ∷ marked ∷ both ∷ damaged ∷ [])
    ≡ text_of (head small 7
    ∷ codes ""
    ∷ codes "[volume-1]" ∷ codes "mode=ubi" ∷ codes "vol_id=1" ∷ codes "vol_type=static" ∷ codes "vol_name='a\"b'"
    ∷ codes "vol_size=512" ∷ codes "vol_alignment=256" ∷ codes "image='1-a\"b'" ∷ codes "vol_flags=skip-check"
    ∷ codes ""
    ∷ codes "# volume 2 is left out: no config can give its flags"
    ∷ codes ""
    ∷ codes "# volume 3 is left out: its update didn't end"
    ∷ codes ""
    ∷ codes "# volume 4 is left out: its name can't stand in quotes"
    ∷ codes ""
    ∷ codes "# volume 5 is left out: it is damaged" ∷ [])
unfolding left_out digits
written = refl

-- the words of the first line
words : head small 7 ≡ codes "# ubi_tool build ubi.ini --out IMAGE --peb 512 --page 64 --vid 64 --data 128 --pebs 32 --seq 7"
unfolding head digits
words = refl

-- what ends with a blank, is empty, or has the end of a line can't be written
blank_end : is_writable (codes "a ") ≡ false
blank_end = refl

nothing : is_writable [] ≡ false
nothing = refl

line_end : is_writable (codes "a" ++ 10 ∷ codes "b") ≡ false
line_end = refl

blank_first : is_writable (codes " a#;=") ≡ true
blank_first = refl
