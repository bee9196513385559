-- The worked examples of one actor's writing and reading, statement by statement.
use Rattle.std.specs.Prelude.{refl, [], ◌∷◌}
use Rattle.plain_machine.specs.Examples.{far, hello, hole, no_bytes, rising, waiting, without}
use Rattle.plain_machine.specs.Saying.{IsSaid, one_actor}

pub hello_said : IsSaid one_actor (10 ∷ []) hello
hello_said = (
  _,
  (
    _,
    (_, _, refl, refl, refl, (_, refl, (refl, refl))),
    (
      _,
      (_, _, refl, refl, refl, (_, _, refl, refl, (_, _, (refl, refl), (refl, refl)))),
      (
        _,
        (_, _, refl, refl, refl, (_, _, refl, refl, (refl, refl))),
        (
          _,
          (_, _, refl, refl, refl, (_, _, refl, refl, (refl, refl))),
          (
            _,
            (_, _, refl, refl, refl, (_, refl, (refl, refl))),
            (
              _,
              (_, _, refl, refl, refl, (refl, refl)),
              refl,
            ),
          ),
        ),
      ),
    ),
  ),
)

pub waiting_said : IsSaid one_actor (10 ∷ []) waiting
waiting_said = (
  _,
  (
    _,
    (_, _, refl, refl, refl, (_, refl, (refl, refl))),
    (
      _,
      (_, _, refl, refl, refl, (_, _, refl, refl, (_, _, (refl, refl), (refl, refl)))),
      (
        _,
        (_, _, refl, refl, refl, (_, refl, (refl, refl))),
        (
          _,
          (_, _, refl, refl, refl, (refl, refl)),
          refl,
        ),
      ),
    ),
  ),
)

pub rising_said : IsSaid one_actor (50 ∷ 20 ∷ []) rising
rising_said = (
  _,
  (
    _,
    (_, _, refl, refl, refl, (_, refl, (refl, refl))),
    (
      _,
      (_, _, refl, refl, refl, (_, _, refl, refl, (_, _, (refl, refl), (refl, refl)))),
      (
        _,
        (_, _, refl, refl, refl, (_, _, refl, refl, (_, _, (refl, refl), (refl, refl)))),
        refl,
      ),
    ),
  ),
)

pub hole_said : IsSaid one_actor (10 ∷ []) hole
hole_said = (
  _,
  (
    _,
    (_, _, refl, refl, refl, (_, refl, (refl, refl))),
    (
      _,
      (_, _, refl, refl, refl, (_, _, refl, refl, (_, _, (refl, refl), (refl, refl)))),
      (
        _,
        (_, _, refl, refl, refl, (_, _, refl, refl, (refl, refl))),
        (
          _,
          (_, _, refl, refl, refl, (_, refl, (refl, refl))),
          (
            _,
            (_, _, refl, refl, refl, (refl, refl)),
            (
              _,
              (_, _, refl, refl, refl, (refl, refl)),
              (
                _,
                (_, _, refl, refl, refl, (refl, refl)),
                refl,
              ),
            ),
          ),
        ),
      ),
    ),
  ),
)

pub no_bytes_said : IsSaid one_actor (10 ∷ []) no_bytes
no_bytes_said = (
  _,
  (
    _,
    (_, _, refl, refl, refl, (_, refl, (refl, refl))),
    (
      _,
      (_, _, refl, refl, refl, (_, _, refl, refl, (refl, refl))),
      (
        _,
        (_, _, refl, refl, refl, (_, _, refl, refl, (refl, refl))),
        (
          _,
          (_, _, refl, refl, refl, (_, refl, (refl, refl))),
          refl,
        ),
      ),
    ),
  ),
)

pub far_said : IsSaid one_actor (10 ∷ []) far
far_said = (
  _,
  (
    _,
    (_, _, refl, refl, refl, (_, refl, (refl, refl))),
    (
      _,
      (_, _, refl, refl, refl, (_, _, refl, refl, (_, _, (refl, refl), (refl, refl)))),
      (
        _,
        (_, _, refl, refl, refl, (_, _, refl, refl, (refl, refl))),
        (
          _,
          (_, _, refl, refl, refl, (_, _, refl, refl, (_, _, (refl, refl), (refl, refl)))),
          refl,
        ),
      ),
    ),
  ),
)

pub without_said : IsSaid one_actor (10 ∷ []) without
without_said = (
  _,
  (
    _,
    (_, _, refl, refl, refl, (refl, refl)),
    (
      _,
      (_, _, refl, refl, refl, (refl, refl)),
      (
        _,
        (_, _, refl, refl, refl, (refl, refl)),
        (
          _,
          (_, _, refl, refl, refl, (refl, refl)),
          (
            _,
            (_, _, refl, refl, refl, (refl, refl)),
            (
              _,
              (_, _, refl, refl, refl, (refl, refl)),
              (
                _,
                (_, _, refl, refl, refl, (_, refl, (refl, refl))),
                (
                  _,
                  (_, _, refl, refl, refl, (refl, refl)),
                  (
                    _,
                    (_, _, refl, refl, refl, (_, refl, (refl, refl))),
                    (
                      _,
                      (_, _, refl, refl, refl, (refl, refl)),
                      refl,
                    ),
                  ),
                ),
              ),
            ),
          ),
        ),
      ),
    ),
  ),
)
