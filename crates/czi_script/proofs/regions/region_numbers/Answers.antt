use Rattle.czi_script.proofs.regions.region_numbers.Goals as goal

pub returns-in_err-pixel : goal.returns-in_err-pixel
returns-in_err-pixel c = rw c.from_residual.ensures (λ pixel layer x y w h scene is_pixel is_layer is_x is_y is_w is_h is_scene. c.in_err-pixel.ensures pixel is_pixel)

pub returns-in_err-layer : goal.returns-in_err-layer
returns-in_err-layer c = rw c.from_residual-in_err-layer.ensures (λ pixel layer x y w h scene is_pixel is_layer is_x is_y is_w is_h is_scene. c.in_err-layer.ensures layer is_layer)

pub returns-in_err-w : goal.returns-in_err-w
returns-in_err-w c = rw c.from_residual-in_err-w.ensures (λ pixel layer x y w h scene is_pixel is_layer is_x is_y is_w is_h is_scene. c.in_err-w.ensures w is_w)

pub returns-in_err-h : goal.returns-in_err-h
returns-in_err-h c = rw c.from_residual-in_err-h.ensures (λ pixel layer x y w h scene is_pixel is_layer is_x is_y is_w is_h is_scene. c.in_err-h.ensures h is_h)
